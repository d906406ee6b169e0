-- The layouts of the bodies of requests.
use Rattle.std.specs.Prelude.{ℕ, ℤ, ◌==◌, true, false, List, nat_lt}
use Rattle.std.specs.Int.{w32, w64, cast_signed}
use Rattle.jtypes.specs.declared.types.Arg.{Arg}
use Rattle.jtypes.specs.declared.types.Arg.TheVariants as arg
use Rattle.jtypes.specs.declared.refusal.Refusal.TheVariants.{BadOperand}
use Rattle.jtypes.specs.Layout.{Layout, known, stopped, chosen, ended, number, many, needed, ◌>>=◌, ◌>>◌}
use Rattle.wire.specs.Requests.{Request, Put, Get, Remove, Contains, Invoke, InvokeAll, RoundEnd, Version, Forget}

unfoldable pub long : Layout ℤ
long = do
  bits ← number 8
  known (cast_signed w64 bits)

unfoldable pub int : Layout ℤ
int = do
  bits ← number 4
  known (cast_signed w32 bits)

unfoldable pub arg_of : ℕ → Layout Arg
arg_of kind =
    chosen (kind == 0) (known arg.Null)
    (chosen (kind == 1) (long >>= λ n. known (arg.Long n))
    (chosen (kind == 2) (int >>= λ n. known (arg.Integer n))
    (chosen (kind == 3) (known (arg.Boolean false))
    (chosen (kind == 4) (known (arg.Boolean true))
    (stopped BadOperand)))))

unfoldable pub argument : Layout Arg
argument = do
  kind ← number 1
  arg_of kind

-- The arguments of an invocation: a count byte, then at most eight arguments.
unfoldable pub arguments : Layout (List Arg)
arguments = do
  count ← number 1
  needed BadOperand (nat_lt count 9)
  many count argument

unfoldable pub put : Layout Request
put = do
  key ← long
  value ← long
  known (Put key value)

unfoldable pub invoke : Layout Request
invoke = do
  class ← number 4
  key ← long
  args ← arguments
  known (Invoke class key args)

unfoldable pub forget : Layout Request
forget = do
  class ← number 4
  known (Forget class)

-- The body of a request other than `Define` and `InvokeAll`, by its kind.
unfoldable pub small : ℕ → Layout Request
small kind =
    chosen (kind == 2) put
    (chosen (kind == 3) (long >>= λ key. known (Get key))
    (chosen (kind == 4) (long >>= λ key. known (Remove key))
    (chosen (kind == 5) (long >>= λ key. known (Contains key))
    (chosen (kind == 6) invoke
    (chosen (kind == 8) (known RoundEnd)
    (chosen (kind == 9) (known Version)
    (chosen (kind == 10) forget
    (stopped BadOperand))))))))

-- The rest of an `InvokeAll` after the class and the key count: the keys, then the arguments.
unfoldable pub keys_and_arguments : (class count : ℕ) → Layout Request
keys_and_arguments class count = do
  keys ← many count long
  args ← arguments
  known (InvokeAll class keys args)

-- The layout `l`, followed by the end of the bytes.
unfoldable pub alone : Layout Request → Layout Request
alone l = do
  r ← l
  ended
  known r
