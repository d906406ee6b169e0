use Rattle.std.proofs.Common.{◌≡◌, ◌∷◌, sym, ap, ◌∙◌, subst}
use Rattle.jtypes.specs.declared.types.Value.TheVariants.{Ref}
use Rattle.jtypes.specs.declared.operations.Native.TheVariants as native
use Rattle.vmcode.specs.declared.stack_instr.StackInstr.TheVariants as linked
use Rattle.slots.specs.Reads.{Reads}
use Rattle.interpreter.specs.AskLoader.{is_entry, gets_value}
use Rattle.interpreter.proofs.Informing.{entry_top, other_top}
use Rattle.interpreter.proofs.ask_loader.gets_value.Goals as goal

pub top_reference-requires : goal.top_reference-requires
top_reference-requires c =
    let (arrays, ls, vs, below, reads, on) = c.requires in
    let is : c.args.linked ≡ linked.CallLibrary native.GetValue = c.in-CallLibrary.is ∙ ap (λ n. linked.CallLibrary n) c.in-GetValue.is in
    let top = on is in
    (arrays, ls, top.0, top.1, below, subst (λ vs. Reads arrays c.args.slots.now ls vs below) top.2 reads)

pub returns-in-Entry : goal.returns-in-Entry
returns-in-Entry c arrays ls vs below reads on =
    let is : c.args.linked ≡ linked.CallLibrary native.GetValue = c.in-CallLibrary.is ∙ ap (λ n. linked.CallLibrary n) c.in-GetValue.is in
    let top = on is in
    let held = c.top_reference.ensures arrays ls top.0 top.1 below (subst (λ vs. Reads arrays c.args.slots.now ls vs below) top.2 reads) in
    let entry = entry_top arrays top.0 c.top_reference.result held c.in-Entry.is in
    sym (ap (λ l. gets_value l vs) is ∙ ap is_entry top.2 ∙ ap (λ v. is_entry (Ref v ∷ top.1)) entry)

pub returns-in_default-matches : goal.returns-in_default-matches
returns-in_default-matches c arrays ls vs below reads on =
    let is : c.args.linked ≡ linked.CallLibrary native.GetValue = c.in-CallLibrary.is ∙ ap (λ n. linked.CallLibrary n) c.in-GetValue.is in
    let top = on is in
    let held = c.top_reference.ensures arrays ls top.0 top.1 below (subst (λ vs. Reads arrays c.args.slots.now ls vs below) top.2 reads) in
    sym (ap (λ l. gets_value l vs) is ∙ ap is_entry top.2 ∙ other_top arrays top.0 c.top_reference.result top.1 held c.in_default-matches.not-Entry)
