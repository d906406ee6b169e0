-- In protocol 1 no class is forgotten.
use Rattle.std.proofs.Common.{◌≡◌, ℕ, ℤ, ◌+◌, Bool, List, [], ◌∷◌, ◌++◌, length, Some, length-append, arith, refl, subst}
use Rattle.std.specs.List.{AllByRecursion}
use Rattle.jtypes.specs.declared.loader.LoadAnswer.{LoadAnswer}
use Rattle.stripe.specs.History.{Call}
use Rattle.wire.specs.Requests.{Request, RoundEnd}
use Rattle.wire.specs.declared.protocol.Protocol.TheVariants.{One}
use Rattle.wire.specs.declared.reply.Reply.{Reply}
use Rattle.wire.specs.Frames.{Knows, IsRequest}
use Rattle.serve.specs.Classes.{Classes, held}
use Rattle.serve.specs.Rounds.{Part, Work, Adds, Gathers}
use Rattle.serve.specs.Rounds as rounds
use Rattle.serve.specs.Served.{Stand, ended, Answers, Serves}
use Rattle.serve.specs.Served as served
use Rattle.serve.proofs.Numbered.{held_append}

each_front : {A : Type 0} (P : A → Type 0) (xs ys : List A) → AllByRecursion P (xs ++ ys) → AllByRecursion P xs
each_front P [] ys h = tt
each_front P (x ∷ xs) ys h = (h.0, each_front P xs ys h.1)

each_back : {A : Type 0} (P : A → Type 0) (xs ys : List A) → AllByRecursion P (xs ++ ys) → AllByRecursion P ys
each_back P [] ys h = h
each_back P (x ∷ xs) ys h = each_back P xs ys h.1

abbrev AllHeld : Classes → Type 0
AllHeld classes = held classes ≡ length classes

request_keeps : {classes later : Classes} {at : ℕ} {r : Request} {p : Part} → Adds classes at r p later → Knows One r → AllHeld classes → AllHeld later
request_keeps {classes} (rounds.defines bytes c r few is) known all = let a = held_append classes (Some c ∷ []) in let b = length-append classes (Some c ∷ []) in omega (arith, a, b, all)
request_keeps (rounds.refuses bytes r few is) known all = all
request_keeps (rounds.lacks_memory bytes few) known all = all
request_keeps (rounds.too_many bytes many) known all = all
request_keeps (rounds.puts key value) known all = all
request_keeps (rounds.gets key) known all = all
request_keeps (rounds.removes key) known all = all
request_keeps (rounds.looks key) known all = all
request_keeps (rounds.invokes n key args) known all = all
request_keeps (rounds.invokes_all n keys args) known all = all
request_keeps rounds.tells_version known all = all
request_keeps (rounds.forgets n c is) known all = absurd known
request_keeps (rounds.forgets_none n is) known all = all

requests_keep : {first later : Classes} {requests : List Request} {works : List Work} {calls : List Call} → Gathers first requests works calls later → AllByRecursion (IsRequest One) requests → AllHeld first → AllHeld later
requests_keep rounds.none each all = all
requests_keep (rounds.more requests works calls now later r p g a) each all =
    let last = each_back (IsRequest One) requests (r ∷ []) each in
    request_keeps a last.0.known (requests_keep g (each_front (IsRequest One) requests (r ∷ []) each) all)

pub rounds_keep : {loads : Bool} {gives : ℤ → LoadAnswer → Type 0} {requests : List Request} {replies : List Reply} {s : Stand} → Answers loads gives requests replies s → AllByRecursion (IsRequest One) requests → AllHeld s.classes
rounds_keep served.Answers.none each = refl
rounds_keep (served.round requests replies s t more others a r) each =
    requests_keep r.gathered (each_front (IsRequest One) more (RoundEnd ∷ []) (each_back (IsRequest One) requests (ended more) each)) (rounds_keep a (each_front (IsRequest One) requests (ended more) each))
