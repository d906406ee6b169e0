-- The requests of a client.
use Rattle.std.specs.Prelude.{ℕ, ℤ, List, Option, Some, None, Result, Ok, Err}
use Rattle.jtypes.specs.declared.types.Arg.{Arg}
use Rattle.wire.specs.declared.request.Request.{Request as Head}
use Rattle.wire.specs.declared.request.Request.TheVariants as head
use Rattle.wire.specs.declared.fault.WireFault.{WireFault}

-- A request with the arguments of an invocation. It refers to a class by its number.
pub data Request : Type 0 where
  Define : (bytes : List ℕ) → Request
  Put : (key value : ℤ) → Request
  Get : (key : ℤ) → Request
  Remove : (key : ℤ) → Request
  Contains : (key : ℤ) → Request
  Invoke : (class : ℕ) → (key : ℤ) → (args : List Arg) → Request
  InvokeAll : (class : ℕ) → (keys : List ℤ) → (args : List Arg) → Request
  RoundEnd : Request
  Version : Request
  Forget : (class : ℕ) → Request

-- The request that the code returns, with the arguments from the separate buffer.
abbrev pub with_args : List Arg → Head → Request
with_args args (head.Define bytes) = Define bytes
with_args args (head.Put key value) = Put key value
with_args args (head.Get key) = Get key
with_args args (head.Remove key) = Remove key
with_args args (head.Contains key) = Contains key
with_args args (head.Invoke class key) = Invoke class key args
with_args args (head.InvokeAll class keys) = InvokeAll class keys args
with_args args head.RoundEnd = RoundEnd
with_args args head.Version = Version
with_args args (head.Forget class) = Forget class

-- The result of a parse, with the arguments that it stored in the separate buffer.
abbrev pub asked : List Arg → Result Head WireFault → Result Request WireFault
asked args (Ok r) = Ok (with_args args r)
asked args (Err e) = Err e

abbrev pub next_asked : List Arg → Result (Option Head) WireFault → Result (Option Request) WireFault
next_asked args (Ok (Some r)) = Ok (Some (with_args args r))
next_asked args (Ok None) = Ok None
next_asked args (Err e) = Err e
