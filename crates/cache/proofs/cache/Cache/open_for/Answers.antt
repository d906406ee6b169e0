use Rattle.std.proofs.Common.{◌≡◌, arith, ap, sym, subst, List, length, ◌∙◌}
use Rattle.std.proofs.lemmas.Grind.{common_steps}
use Rattle.stripe.specs.Stored.{Stored}
use Rattle.stripe.specs.Tables.{IsCount, none_back}
use Rattle.cache.specs.Inside.{IsBoard}
use Rattle.cache.specs.declared.known.Terms.{Terms}
use Rattle.cache.proofs.Starts.{long, are_ready, come_back, tables_are}
use Rattle.cache.proofs.cache.Cache.open_for.Goals as goal

pub rejoined-requires-clause-stripes : goal.rejoined-requires-clause-stripes
rejoined-requires-clause-stripes g c = are_ready c.args.journal c.args.tables c.in_ok-stripes.stripes.items c.in_ok-stripes.ensures.stripes

pub rejoined-requires-clause-rest : goal.rejoined-requires-clause-rest
rejoined-requires-clause-rest g c = come_back c.args.journal c.args.tables c.in_ok-stripes.stripes.items c.in_ok-stripes.ensures.stripes c.in_ok-stripes.rest c.in_ok-stripes.ensures.rest

pub returns-in_default-clause-given : goal.returns-in_default-clause-given
returns-in_default-clause-given g c = c.rejoined.ensures ∙ tables_are c.args.journal c.args.tables c.in_ok-stripes.stripes.items c.in_ok-stripes.ensures.stripes

pub invariant_of-cache : goal.invariant_of-cache
invariant_of-cache g c =
    let k : Terms _ = record { tables = c.of.result; journal = c.args.journal; loader = c.of-2.result } in
    let of : c.of.result.value ≡ c.args.tables = c.of.ensures in
    let l = c.in-Ok-locked.ensures in
    let key : c.in-Ok-locked.table.shared.key ≡ k = l.key in
    let s = c.in_ok-stripes.ensures in
    let items : c.len-count.result ≡ length c.in_ok-stripes.stripes.items = c.len-count.ensures ∙ grind (arith, common_steps) in
    let count : c.len-count.result ≡ length c.args.tables = items ∙ long c.args.journal c.args.tables c.in_ok-stripes.stripes.items s.stripes in
    let room = c.in-Ok.ensures in
    record {
      board = subst (λ (q : Terms _). IsBoard c.in-Ok-locked.table.shared.table_id q) (sym key) record { words = l.words; slots = l.slots; count = subst (λ (ms : List Stored). IsCount (length ms)) (sym of) s.tables; journal = s.journal };
      loader = ap (λ (q : Terms _). q.loader.value) key ∙ c.of-2.ensures;
      stripes = count ∙ ap (λ (ms : List Stored). length ms) (sym of) ∙ ap (λ (q : Terms _). length q.tables.value) (sym key);
      some_seat = omega (arith, c.if-seats-eq0.false);
      rest = s.rest ∙ ap none_back (sym count);
      receipts = room.receipts;
      room = room.receipts_room;
    }

pub rejoined-requires-in-Err-clause-stripes : goal.rejoined-requires-in-Err-clause-stripes
rejoined-requires-in-Err-clause-stripes g c = are_ready c.args.journal c.args.tables c.in-Err.stripes.items (c.in-Err.ensures.err ∙ c.in_ok-stripes.ensures.stripes)

pub rejoined-requires-in-Err-clause-rest : goal.rejoined-requires-in-Err-clause-rest
rejoined-requires-in-Err-clause-rest g c = come_back c.args.journal c.args.tables c.in-Err.stripes.items (c.in-Err.ensures.err ∙ c.in_ok-stripes.ensures.stripes) c.in_ok-stripes.rest c.in_ok-stripes.ensures.rest

pub returns-clause-given : goal.returns-clause-given
returns-clause-given g c = c.rejoined-in-Err.ensures ∙ tables_are c.args.journal c.args.tables c.in-Err.stripes.items (c.in-Err.ensures.err ∙ c.in_ok-stripes.ensures.stripes)
