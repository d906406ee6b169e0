-- A program that computes the definitions on small inputs: the class of some bytes, and the final state of a call.
use Rattle.std.specs.Prelude.{ℕ, zero, suc, ◌+◌, ◌-◌, List, [], ◌∷◌, length, map, Option, Some, None, Result, Ok, Err, option_map, ℤ, true, false}
use Rattle.jtypes.specs.declared.refusal.Refusal.{Refusal}
use Rattle.jtypes.specs.declared.types.Arg.{Arg}
use Rattle.jtypes.specs.declared.loader.LoadAnswer.{LoadAnswer}
use Rattle.jtypes.specs.declared.loader.LoadAnswer.TheVariants as load
use Rattle.jtypes.specs.Layout.{first}
use Rattle.jtypes.specs.Lists.{only, ◌>>=◌}
use Rattle.constpool.specs.Lookup.{Slot}
use Rattle.classfile.specs.declared.class_file.Member.{Member}
use Rattle.classfile.specs.declared.class_file.Parts.{Parts}
use Rattle.classfile.specs.declared.class_file.CodeParts.{CodeParts}
use Rattle.classfile.specs.Code.{parts_of_code}
use Rattle.classfile.specs.Class.{class_file}
use Rattle.classfile.specs.View.{ClassView, view_of, method_view, codes_of, tables_of}
use Rattle.jtypes.specs.Profile.{Third}
use Rattle.decode.specs.declared.instruction.Instruction.{Instruction}
use Rattle.decode.specs.declared.instruction.Placed.{Placed}
use Rattle.decode.specs.Code.{one}
use Rattle.frames.specs.declared.signatures.Signature.{Signature}
use Rattle.frames.specs.Signatures.{method_signature}
use Rattle.frames.specs.Frames.{Frame}
use Rattle.frames.specs.declared.frame.Environment.{Environment}
use Rattle.frames.specs.StackMap.{table, frames_from, declared_of}
use Rattle.typecheck.specs.Typing.{Method, Class}
use Rattle.verdict.specs.Machine.{Invocation, Final, start}
use Rattle.verdict.specs.Meaning.{run}

-- The result of a reading that uses all bytes.
abbrev pub all_read : {A : Type 0} → Result (A × List ℕ) Refusal → Option A
all_read (Ok (x, [])) = Some x
all_read _ = None

abbrev pub placed : ℕ → ℕ → Instruction → Placed
placed at next i = record { place = at; next = next; instruction = i }

unfoldable pub item_of : ℕ → ℕ → Result (Instruction × List ℕ) Refusal → Option (Placed × List ℕ)
item_of at left (Err r) = None
item_of at left (Ok (i, rest)) = Some (placed at (at + (left - length rest)) i, rest)

-- The instructions of a code array, if there are at most `most`.
unfoldable pub decode_all : ℕ → List Slot → ℕ → List ℕ → Option (List Placed)
decode_all most pool at [] = Some []
decode_all zero pool at (b ∷ bytes) = None
decode_all (suc most) pool at (b ∷ bytes) =
    item_of at (length (b ∷ bytes)) (first (one Third pool at) (b ∷ bytes)) >>= λ p. option_map (λ ps. p.0 ∷ ps) (decode_all most pool p.0.next p.1)

-- The declared frames, from no StackMapTable or from one.
abbrev pub frames_of : ClassView → Environment → List (List ℕ) → Option (List (ℕ × Frame))
frames_of v e [] = Some []
frames_of v e (content ∷ []) = all_read (first (table v) content) >>= λ entries. option_map (map (declared_of e)) (frames_from None e.signature.params entries)
frames_of v e _ = None

abbrev pub environment_of : CodeParts → Signature → Environment
environment_of c s = record { signature = s; max_stack = c.max_stack; max_locals = c.max_locals }

abbrev pub the_method : Environment → List Placed → List (ℕ × Frame) → Method
the_method e code declared = record { environment = e; code = code; declared = declared }

unfoldable pub method_of : ClassView → Member → Option Method
method_of v m = do
  content ← only (codes_of v.pool m)
  c ← parts_of_code content
  s ← method_signature v (method_view v.pool m)
  code ← decode_all (length c.code) v.pool 0 c.code
  declared ← frames_of v (environment_of c s) (tables_of v.pool c)
  Some (the_method (environment_of c s) code declared)

unfoldable pub methods_of : ClassView → List Member → Option (List Method)
methods_of v [] = Some []
methods_of v (m ∷ ms) = method_of v m >>= λ x. option_map (λ xs. x ∷ xs) (methods_of v ms)

unfoldable pub class_in : List Slot × Parts → Option Class
class_in p = option_map (λ ms. record { view = view_of p.0 p.1; methods = ms }) (methods_of (view_of p.0 p.1) p.1.methods)

-- The class of these bytes.
unfoldable pub class_of : List ℕ → Option Class
class_of bytes = all_read (first (class_file (length bytes)) bytes) >>= class_in

-- The final state of a call, if it is reached in at most `most` steps; `a` is the loader's answer, if it is asked.
unfoldable pub ends_with : ℕ → Class → LoadAnswer → Invocation → Option Final
ends_with most c a call = start c call >>= run most c a

abbrev pub the_call : ℤ → Option ℤ → List Arg → Invocation
the_call key before args = record { key = key; args = args; before = before; loads = false }

-- A call on an absent key, with a loader.
abbrev pub the_asking_call : ℤ → List Arg → Invocation
the_asking_call key args = record { key = key; args = args; before = None; loads = true }

unfoldable pub outcome_by : ℕ → Option Class → LoadAnswer → Invocation → Option Final
outcome_by most None a call = None
outcome_by most (Some c) a call = ends_with most c a call

abbrev pub outcome_of : ℕ → Option Class → Invocation → Option Final
outcome_of most c call = outcome_by most c load.None call
