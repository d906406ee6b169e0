-- Streams that were cut short: their continuations, and which of their rounds were answered.
use Rattle.std.specs.Prelude.{Bool, ℤ, ◌≡◌, ℕ, suc, ◌≤◌, List, [], ◌∷◌, ◌++◌}
use Rattle.std.specs.List.{AllByRecursion}
use Rattle.jtypes.specs.declared.loader.LoadAnswer.{LoadAnswer}
use Rattle.wire.specs.Requests.{Request, RoundEnd}
use Rattle.wire.specs.declared.protocol.Protocol.{Protocol}
use Rattle.wire.specs.Frames.{IsRequest}
use Rattle.serve.specs.declared.fault.ServeFault.{ServeFault}
use Rattle.serve.specs.declared.fault.ServeFault.TheVariants as fault
use Rattle.serve.specs.Served.{requests_text, IsServed}

-- `BeginWith` holds if the bytes begin with the frames of these requests of the protocol.
pub record BeginWith (p : Protocol) (bytes : List ℕ) (requests : List Request) : Type 0 where
  pub each : AllByRecursion (IsRequest p) requests
  pub rest : List ℕ
  pub parts : bytes ≡ requests_text requests ++ rest

-- `GoesOn` holds if `input` can be continued to a stream that is served, whose answer begins with `output`.
pub record GoesOn (p : Protocol) (loads : Bool) (gives : ℤ → LoadAnswer → Type 0) (input output : List ℕ) : Type 0 where
  pub more : List ℕ
  pub later : List ℕ
  pub served : IsServed p loads gives (input ++ more) (output ++ later)

-- `FramesGoOn` holds if `GoesOn` holds for any requests whose frames `input` begins with.
abbrev pub FramesGoOn : Protocol → Bool → (ℤ → LoadAnswer → Type 0) → List ℕ → List ℕ → Type 0
FramesGoOn p loads gives input output = (requests : List Request) → BeginWith p input requests → GoesOn p loads gives (requests_text requests) output

-- The number of rounds that end in these requests.
abbrev pub ends : List Request → ℕ
ends [] = 0
ends (RoundEnd ∷ requests) = suc (ends requests)
ends (_ ∷ requests) = ends requests

-- `EndAtMost` holds if at most `n` rounds end in the whole frames that the bytes begin with.
abbrev pub EndAtMost : Protocol → ℕ → List ℕ → Type 0
EndAtMost p n bytes = (requests : List Request) → BeginWith p bytes requests → ends requests ≤ n

-- `AnsweredBut` holds if exactly the rounds of a prefix were answered, and at most `n` rounds end after it.
pub record AnsweredBut (p : Protocol) (loads : Bool) (gives : ℤ → LoadAnswer → Type 0) (n : ℕ) (input output : List ℕ) : Type 0 where
  pub front : List ℕ
  pub back : List ℕ
  pub parts : input ≡ front ++ back
  pub served : IsServed p loads gives front output
  pub unanswered : EndAtMost p n back

-- `IsTold` says which rounds were answered before this fault: all that were read up to their end.
-- With `NoMemory` and `Write`, at most one such round is unanswered; with `Write` a part of its answer may be written.
abbrev pub IsTold : Protocol → Bool → (ℤ → LoadAnswer → Type 0) → List ℕ → List ℕ → ServeFault → Type 0
IsTold p loads gives input output fault.NoMemory = AnsweredBut p loads gives 1 input output
IsTold p loads gives input output fault.Write = (told part : List ℕ) × (output ≡ told ++ part) × AnsweredBut p loads gives 1 input told
IsTold p loads gives input output _ = AnsweredBut p loads gives 0 input output
