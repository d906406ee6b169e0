-- A stream of two rounds, byte by byte: a put of 1 on key 5, and a get of key 5. And the answers to it.
use Rattle.std.specs.Prelude.{false, ℕ, ℤ, List, [], ◌∷◌, ◌++◌}
use Rattle.jtypes.specs.declared.loader.LoadAnswer.{LoadAnswer}
use Rattle.wire.specs.declared.protocol.Protocol.{Protocol}
use Rattle.serve.specs.Served.{IsServed}

-- a frame is its length in four bytes, the kind of the request or of the reply, and its numbers of eight bytes each
abbrev pub put_5_to_1 : List ℕ
put_5_to_1 = 0 ∷ 0 ∷ 0 ∷ 17 ∷ 2 ∷ 0 ∷ 0 ∷ 0 ∷ 0 ∷ 0 ∷ 0 ∷ 0 ∷ 5 ∷ 0 ∷ 0 ∷ 0 ∷ 0 ∷ 0 ∷ 0 ∷ 0 ∷ 1 ∷ []

abbrev pub get_5 : List ℕ
get_5 = 0 ∷ 0 ∷ 0 ∷ 9 ∷ 3 ∷ 0 ∷ 0 ∷ 0 ∷ 0 ∷ 0 ∷ 0 ∷ 0 ∷ 5 ∷ []

abbrev pub round_end : List ℕ
round_end = 0 ∷ 0 ∷ 0 ∷ 1 ∷ 8 ∷ []

abbrev pub stream : List ℕ
stream = put_5_to_1 ++ round_end ++ get_5 ++ round_end

abbrev pub done : List ℕ
done = 0 ∷ 0 ∷ 0 ∷ 1 ∷ 3 ∷ []

-- the replies to a get: no value, and the value 1
abbrev pub no_value : List ℕ
no_value = 0 ∷ 0 ∷ 0 ∷ 2 ∷ 4 ∷ 0 ∷ []

abbrev pub value_1 : List ℕ
value_1 = 0 ∷ 0 ∷ 0 ∷ 10 ∷ 4 ∷ 1 ∷ 0 ∷ 0 ∷ 0 ∷ 0 ∷ 0 ∷ 0 ∷ 0 ∷ 1 ∷ []

-- the reply to a call that is out of memory, and changes nothing
abbrev pub lacks_memory : List ℕ
lacks_memory = 0 ∷ 0 ∷ 0 ∷ 2 ∷ 8 ∷ 3 ∷ []

abbrev pub round_ended : List ℕ
round_ended = 0 ∷ 0 ∷ 0 ∷ 1 ∷ 9 ∷ []

-- the output with these replies to the put and to the get, each followed by the end of its round
abbrev pub answer : List ℕ → List ℕ → List ℕ
answer put get = put ++ round_ended ++ get ++ round_ended

-- `MayAnswer output` holds if the get returns the value that was put, or no value after a put that was out of memory
pub data MayAnswer : List ℕ → Type 0 where
  whole : MayAnswer (answer done value_1)
  put_lacks : MayAnswer (answer lacks_memory no_value)

-- `HasItsAnswer p gives` holds if the stream is served with the first of these outputs and no loader is asked
abbrev pub HasItsAnswer : Protocol → (ℤ → LoadAnswer → Type 0) → Type 0
HasItsAnswer p gives = IsServed p false gives stream (answer done value_1)

-- `HasNoOther p gives` holds if `MayAnswer` holds of each output that the stream is served with and no loader is asked
abbrev pub HasNoOther : Protocol → (ℤ → LoadAnswer → Type 0) → Type 0
HasNoOther p gives = (output : List ℕ) → IsServed p false gives stream output → MayAnswer output
