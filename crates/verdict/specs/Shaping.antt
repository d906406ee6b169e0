-- The results of the functions that check the shape.
use Rattle.std.specs.Prelude.{◌≡◌, ◌⊎◌, ◌<◌, ◌≤◌, ◌+◌, ◌*◌, ◌==◌, length, filter, slice_get, ℕ, Bool, true, false, not, ◌&&◌, ◌||◌, List, [], ◌∷◌, Option, Some, None, Result, Ok, Err, codes, nat_le, nat_eq}
use Rattle.std.specs.List.{AllZip, list_any}
use Rattle.jtypes.specs.declared.refusal.Refusal.{Refusal}
use Rattle.jtypes.specs.declared.refusal.Refusal.TheVariants.{NoMemory, BadDescriptor, NoBody, BadCode, ExceptionTable, ClassInitialiser, NoProcess, DuplicateMethod}
use Rattle.jtypes.specs.Lists.{is_one_of, only, same_bytes}
use Rattle.constpool.specs.declared.descriptor.Sig.{Sig}
use Rattle.constpool.specs.Descriptor.{sig_of}
use Rattle.constpool.specs.Lookup.{Slot, MemberRef, class_at, method_at}
use Rattle.constpool.specs.Names.{object_name, init_name, clinit_name, entry_processor_name, process_name, process_descriptor}
use Rattle.classfile.specs.declared.class_file.Member.{Member}
use Rattle.classfile.specs.declared.class_file.Parts.{Parts}
use Rattle.classfile.specs.declared.class_file.CodeParts.{CodeParts}
use Rattle.classfile.specs.Code.{is_text}
use Rattle.classfile.specs.View.{ClassView, MethodView, class_name_at, method_view, tables_of, text_at, view_of}
use Rattle.frames.specs.Signatures.{is_public, is_static}
use Rattle.verdict.specs.Shape.{has_other_kind, reserved_names, slots_taken, HasCode, HasBadDescriptor, HasNoBody, HasBadCode, HasExceptions, HasConstructor, ShapeStands, is_constructor}

-- `Judges` holds if the result is a good value, a refusal that applies, or `NoMemory`.
abbrev pub Judges : {A : Type 0} → (A → Type 0) → (Refusal → Type 0) → Result A Refusal → Type 0
Judges IsGood Stands (Ok x) = IsGood x
Judges IsGood Stands (Err r) = (r ≡ NoMemory) ⊎ Stands r

-- ---- the header, and methods by name

abbrev pub is_named_process : List Slot → Member → Bool
is_named_process pool m = same_bytes (text_at pool m.name) process_name && same_bytes (text_at pool m.descriptor) process_descriptor

abbrev pub has_header : List Slot → Parts → Bool
has_header pool p =
    not (has_other_kind p.flags)
    && is_text object_name (class_at pool p.super_class)
    && list_any (λ i. is_text entry_processor_name (class_at pool i)) p.interfaces
    && not (is_one_of (class_name_at pool p.this_class) reserved_names)

-- ---- descriptors

abbrev pub DescriptorStands : ClassView → MethodView → Refusal → Type 0
DescriptorStands v m r = (r ≡ BadDescriptor) × HasBadDescriptor v m

-- `HasSlots` holds if the method has a good descriptor, and its parameters take this number of slots with the receiver.
pub record HasSlots (v : ClassView) (m : MethodView) (slots : ℕ) : Type 0 where
  pub sig : Sig
  pub is : sig_of m.descriptor ≡ Some sig
  pub slots_are : slots ≡ slots_taken m.flags sig
  pub good : HasBadDescriptor v m → ⊥

-- ---- `Code` attributes

-- `ArePartsGood` holds if the parts of a `Code` attribute are valid for parameters of this number of slots.
pub record ArePartsGood (slots : ℕ) (c : CodeParts) : Type 0 where
  pub some : 0 < length c.code
  pub within : length c.code ≤ 65_535
  pub room : slots ≤ c.max_locals
  pub no_table : c.exceptions ≡ 0

abbrev pub PartsStand : ℕ → CodeParts → Refusal → Type 0
PartsStand slots c BadCode = (length c.code ≡ 0) ⊎ (65_535 < length c.code) ⊎ (c.max_locals < slots)
PartsStand slots c ExceptionTable = 0 < c.exceptions
PartsStand slots c _ = ⊥

-- `MethodCodeStands` holds if the refusal applies to the method's `Code` attributes.
abbrev pub MethodCodeStands : List Slot → Member → Refusal → Type 0
MethodCodeStands pool m NoBody = HasNoBody pool m
MethodCodeStands pool m BadCode = HasBadCode pool m
MethodCodeStands pool m ExceptionTable = HasExceptions pool m
MethodCodeStands pool m _ = ⊥

pub record HasGoodCode (pool : List Slot) (m : Member) (c : CodeParts) : Type 0 where
  pub has_code : HasCode pool m c
  pub none_stands : (r : Refusal) → MethodCodeStands pool m r → ⊥

-- ---- methods

-- `MethodStands` holds if the refusal applies to the method's descriptor or `Code` attributes.
abbrev pub MethodStands : List Slot → Parts → Member → Refusal → Type 0
MethodStands pool p m BadDescriptor = HasBadDescriptor (view_of pool p) (method_view pool m)
MethodStands pool p m r = MethodCodeStands pool m r

pub record HasGoodMethod (pool : List Slot) (p : Parts) (m : Member) (c : CodeParts) : Type 0 where
  pub has_code : HasCode pool m c
  pub none_stands : (r : Refusal) → MethodStands pool p m r → ⊥

-- ---- the constructor

abbrev pub is_object_init : Option MemberRef → Bool
is_object_init None = false
is_object_init (Some m) = same_bytes m.class object_name && same_bytes m.name init_name && same_bytes m.descriptor (codes "()V")

-- Whether the code is `aload_0`, `invokespecial java/lang/Object.<init>()V`, `return`.
abbrev pub calls_object_init : List Slot → List ℕ → Bool
calls_object_init pool (load ∷ call ∷ high ∷ low ∷ back ∷ []) =
    load == 0x2A && call == 0xB7 && back == 0xB1 && is_object_init (method_at pool (high * 256 + low))
calls_object_init pool _ = false

abbrev pub has_constructor_code : List Slot → CodeParts → Bool
has_constructor_code pool c = calls_object_init pool c.code && nat_le 1 c.max_stack && nat_le 1 c.max_locals && nat_eq (length (tables_of pool c)) 0

abbrev pub has_constructor_type : List Slot → Member → Bool
has_constructor_type pool m = not (is_static m.flags) && same_bytes (text_at pool m.descriptor) (codes "()V")

-- `IsOnlyAt` holds if the element at index `n` is the only one that passes the test.
pub record IsOnlyAt {X : Type 0} (test : X → Bool) (xs : List X) (n : ℕ) : Type 0 where
  pub found : X
  pub is : slice_get xs n ≡ Some found
  pub only_is : only (filter test xs) ≡ Some found

abbrev pub FindsOnly : {X : Type 0} → (X → Bool) → List X → Option ℕ → Type 0
FindsOnly test xs None = only (filter test xs) ≡ None
FindsOnly test xs (Some n) = IsOnlyAt test xs n

-- `IsTheConstructor` holds if method `n` is the constructor, and no other method is one.
pub record IsTheConstructor (pool : List Slot) (p : Parts) (n : ℕ) : Type 0 where
  pub has : HasConstructor pool p
  pub is : slice_get p.methods n ≡ Some has.0
  pub named : is_constructor pool has.0 ≡ true
  pub no_other : (k : ℕ) (m : Member) → slice_get p.methods k ≡ Some m → is_constructor pool m ≡ true → k ≡ n

-- ---- methods by name

abbrev pub are_doubles : List Slot → Member → Member → Bool
are_doubles pool m n = same_bytes (text_at pool m.name) (text_at pool n.name) && same_bytes (text_at pool m.descriptor) (text_at pool n.descriptor)

abbrev pub has_doubles : List Slot → List Member → Bool
has_doubles pool [] = false
has_doubles pool (m ∷ others) = list_any (are_doubles pool m) others || has_doubles pool others

abbrev pub is_initialiser : List Slot → Member → Bool
is_initialiser pool m = same_bytes (text_at pool m.name) clinit_name

abbrev pub is_good_process : List Slot → Member → Bool
is_good_process pool m = is_named_process pool m && is_public m.flags && not (is_static m.flags)

pub record AreNamesGood (pool : List Slot) (methods : List Member) : Type 0 where
  pub no_initialiser : list_any (is_initialiser pool) methods ≡ false
  pub process : list_any (is_good_process pool) methods ≡ true
  pub no_doubles : has_doubles pool methods ≡ false

abbrev pub NamesStand : List Slot → List Member → Refusal → Type 0
NamesStand pool methods ClassInitialiser = list_any (is_initialiser pool) methods ≡ true
NamesStand pool methods NoProcess = list_any (is_good_process pool) methods ≡ false
NamesStand pool methods DuplicateMethod = has_doubles pool methods ≡ true
NamesStand pool methods _ = ⊥

-- ---- the shape

-- `HasGoodShape` holds if no refusal of the shape applies, and these are the `Code` parts of the methods and the constructor's index.
pub record HasGoodShape (pool : List Slot) (p : Parts) (parts : List CodeParts) (constructor : ℕ) : Type 0 where
  pub none_stands : (r : Refusal) → ShapeStands pool p r → ⊥
  pub codes_are : AllZip (HasCode pool) p.methods parts
  pub constructor_is : IsTheConstructor pool p constructor
