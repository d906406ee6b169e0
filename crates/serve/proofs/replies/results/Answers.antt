use Rattle.std.proofs.Common.{◌≡◌, ℕ, ℤ, zero, suc, ◌+◌, ◌<◌, List, [], ◌∷◌, ◌++◌, Option, None, length, map, drop, get_or, refl, sym, ap, ◌∙◌, arith, append_assoc}
use Rattle.stripe.specs.declared.call.Reply.{Reply}
use Rattle.wire.specs.declared.reply.JobOutcome.{JobOutcome}
use Rattle.invokeall.specs.Rounds.{reply_of}
use Rattle.serve.specs.Rounds.{listed, all_listed}
use Rattle.serve.proofs.replies.results.Goals as goal

none_behind : (i : ℕ) → drop {A = Option Reply} i [] ≡ []
none_behind zero = refl
none_behind (suc i) = refl

-- The outcomes listed from index `i` on are those of key `i` and those from the next index on.
from_next : (answers : List (Option Reply)) (keys : List ℤ) (i : ℕ) (d : ℤ) → i < length keys
    → all_listed (drop i answers) (drop i keys) ≡ listed (get_or keys i d) (get_or answers i None) ++ all_listed (drop (suc i) answers) (drop (suc i) keys)
from_next answers [] i d below = absurd (omega arith)
from_next [] (k ∷ keys) zero d below = refl
from_next (a ∷ answers) (k ∷ keys) zero d below = refl
from_next [] (k ∷ keys) (suc i) d below = ap (λ l. all_listed l (drop i keys)) (sym (none_behind i)) ∙ from_next [] keys i d (omega arith)
from_next (a ∷ answers) (k ∷ keys) (suc i) d below = from_next answers keys i d (omega arith)

-- `from_next`, for a list to which the outcomes of key `i` are appended.
listed_more : (answers : List (Option Reply)) (keys : List ℤ) (i : ℕ) (d : ℤ) (a : Option Reply) (old new all : List (ℤ × JobOutcome)) → i < length keys → a ≡ get_or answers i None → new ≡ old ++ listed (get_or keys i d) a
    → old ++ all_listed (drop i answers) (drop i keys) ≡ all → new ++ all_listed (drop (i + 1) answers) (drop (i + 1) keys) ≡ all
listed_more answers keys i d a old new all below is items told =
    let next : i + 1 ≡ suc i = omega arith in
    let rest : List (ℤ × JobOutcome) = all_listed (drop (suc i) answers) (drop (suc i) keys) in
    let k : ℤ = get_or keys i d in
    ap (λ m. new ++ all_listed (drop m answers) (drop m keys)) next ∙ ap (λ l. l ++ rest) items ∙ append_assoc old (listed k a) rest ∙ ap (λ b. old ++ (listed k b ++ rest)) is
    ∙ ap (λ l. old ++ l) (sym (from_next answers keys i d below)) ∙ told

pub loop-i-preserved : goal.loop-i-preserved
loop-i-preserved c =
    listed_more (map reply_of c.args.answers.now) c.args.keys.now c.loop-i.i _ _ c.loop-i.list.items c.list_job.new.list.items _ c.loop-i-test.true c.answer_at.ensures c.in_ok-list_job.ensures c.loop-i.invariant
