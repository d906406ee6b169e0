use Rattle.std.proofs.Common.{◌≡◌, ◌≢◌, ◌≤◌, ℕ, List, [], ◌∷◌, ◌++◌, length, Option, Some, None, IfSome, IfNone, Ok, arith, refl, sym, ap, ◌∙◌, subst, append-nil}
use Rattle.std.proofs.lemmas.List.{length-map}
use Rattle.std.specs.Io.KnownBytes.{Consumes, IsAtEnd}
use Rattle.std.proofs.KnownBytes.{Consumes-nil, Consumes-trans}
use Rattle.jtypes.specs.declared.types.Arg.{Arg}
use Rattle.wire.specs.Requests.{Request, Invoke, RoundEnd, with_args, next_asked}
use Rattle.wire.specs.declared.protocol.Protocol.{Protocol}
use Rattle.wire.specs.Counting.{Counting}
use Rattle.wire.specs.declared.request.Request.{Request as Head}
use Rattle.wire.specs.Frames.{IsRequest, IsRead}
use Rattle.wire.specs.declared.request.Invocation.{Invocation}
use Rattle.wire.specs.Reading.{ReadGives, TookSome}
use Rattle.serve.specs.Served.{requests_text, Stops, memory, input_ended}
use Rattle.serve.specs.Kept.{Adding, classes_of, work_of}
use Rattle.serve.proofs.Rounds.{each_more, took_more, as_many, begun, gathered_more, stops_of}
use Rattle.serve.proofs.Begun.{is_none, is_some, nil_of, err_as}
use Rattle.serve.proofs.Devices.{stays_on}
use Rattle.serve.proofs.reading.read_round.Goals as goal

frame_read : (p : Protocol) (left : Option (List ℕ)) (bytes : List ℕ) (args : List Arg) (o : Option Head) (r : Head) → o ≡ Some r → ReadGives p left bytes (next_asked args (Ok o)) → IsRead p bytes (with_args args r) []
frame_read p left bytes args o r e h = subst (λ (x : Option Head). ReadGives p left bytes (next_asked args (Ok x))) e h

end_read : (p : Protocol) (left : Option (List ℕ)) (bytes : List ℕ) (args : List Arg) (o : Option Head) → o ≡ None → ReadGives p left bytes (next_asked args (Ok o)) → (bytes ≡ []) × IsAtEnd left
end_read p left bytes args o e h = subst (λ (x : Option Head). ReadGives p left bytes (next_asked args (Ok x))) e h

-- The bytes consumed before a step that leaves the reader unchanged are the bytes consumed after it.
took_before : {R : Type 0} (remaining : R → Option (List ℕ)) (first : Option (List ℕ)) (old new : Counting R) (bytes : List ℕ) → new ≡ old → Consumes first (remaining old.inner) bytes → Consumes first (remaining new.inner) bytes
took_before remaining first old new bytes same took = subst (λ x. Consumes first (remaining x.inner) bytes) (sym same) took

-- The bytes of a buffered `Invoke` that was consumed, and the statement that holds if there is none.
taken_at_hand : {R : Type 0} (remaining : R → Option (List ℕ)) (old new : Counting R) (args : List Arg) (o : Option Invocation) (i : Invocation) → o ≡ Some i
    → IfSome o (λ x. TookSome remaining old new (λ _ bytes. (p : Protocol) → IsRead p bytes (Invoke x.class x.key args) [])) → TookSome remaining old new (λ _ bytes. (p : Protocol) → IsRead p bytes (Invoke i.class i.key args) [])
taken_at_hand remaining old new args o i e h = subst (λ (y : Option Invocation). IfSome y (λ x. TookSome remaining old new (λ _ bytes. (p : Protocol) → IsRead p bytes (Invoke x.class x.key args) []))) e h

is_none_of : {A P : Type 0} (o : Option A) → o ≡ None → IfNone o P → P
is_none_of {P = P} o e h = subst (λ o. IfNone o P) e h

pub loop-init : goal.loop-init
loop-init g c = record {
  known = c.requires;
  kept = (refl, refl);
  requests = [];
  are = tt;
  took = Consumes-nil (g.R.Read.remaining c.args.reader.now.inner);
  gathered = begun (classes_of c.args.state.now.ids.items) c.no_requests-plan.result.works.items c.no_requests-plan.result.calls.items c.no_requests-plan.ensures.works c.no_requests-plan.ensures.calls;
}

pub loop-preserved : goal.loop-preserved
loop-preserved g c =
    let i = c.loop.invariant in
    let took = took_before g.R.Read.remaining (g.R.Read.remaining c.args.reader.now.inner) c.loop.reader c.invocation_at_hand.new.reader (requests_text i.requests) (is_none_of c.in_ok-invocation.field-0 c.in_default.is c.in_ok-invocation.ensures.none).0 i.took in
    let b = c.in_ok-request.ensures.bytes in
    let args : List Arg = c.read_request.new.args.items in
    let r : Request = with_args args c.in-Some-3.request in
    let f = frame_read c.args.server.now.settings.protocol (g.R.Read.remaining c.read_request.new.reader.inner) b.0 args c.in_ok-request.field-0 c.in-Some-3.request c.in-Some-3.is b.2 in
    let apart : r ≢ RoundEnd = c.is_end.ensures.no args c.if-is_end.false in
    let added : Adding (classes_of c.loop.state.ids.items) c.loop.plan (with_args args c.in-Some-3.request) c.add.new.plan (classes_of c.add.new.ids.items) =
    subst (λ l. Adding (classes_of c.loop.state.ids.items) c.loop.plan (with_args l c.in-Some-3.request) c.add.new.plan (classes_of c.add.new.ids.items)) c.as_slice-in-Some-3.ensures.value c.in_ok-add-in-Some-3.ensures.ok in
    record {
      known = c.add.ensures.known;
      kept = stays_on c.args.reader.now c.invocation_at_hand.new.reader c.read_request.new.reader (stays_on c.args.reader.now c.loop.reader c.invocation_at_hand.new.reader i.kept c.invocation_at_hand.ensures.counted) c.in_ok-request.ensures.counted;
      requests = i.requests ++ r ∷ [];
      are = each_more (λ x. IsRequest c.args.server.now.settings.protocol x × (x ≢ RoundEnd)) i.requests r i.are (f.request, apart);
      took = took_more _ _ _ i.requests r b.0 took b.1 f;
      gathered = gathered_more (classes_of c.args.state.now.ids.items) (classes_of c.loop.state.ids.items) (classes_of c.add.new.ids.items) i.requests r c.loop.plan c.add.new.plan i.gathered added;
    }

pub add_invoke-requires-clause-few : goal.add_invoke-requires-clause-few
add_invoke-requires-clause-few g c =
    let args : List Arg = c.invocation_at_hand.new.args.items in
    let (bytes, took, at_hand) = taken_at_hand g.R.Read.remaining c.loop.reader c.invocation_at_hand.new.reader args c.in_ok-invocation.field-0 c.in-Some-2.invocation c.in-Some-2.is c.in_ok-invocation.ensures.some in
    let few : length args ≤ 8 = (at_hand c.args.server.now.settings.protocol).request.in_range.2.few in
    subst (λ (l : List Arg). length l ≤ 8) (sym c.as_slice.ensures.value) few

pub loop-preserved-in-Some-2 : goal.loop-preserved-in-Some-2
loop-preserved-in-Some-2 g c =
    let i = c.loop.invariant in
    let args : List Arg = c.invocation_at_hand.new.args.items in
    let r : Request = Invoke c.in-Some-2.invocation.class c.in-Some-2.invocation.key args in
    let (bytes, took, at_hand) = taken_at_hand g.R.Read.remaining c.loop.reader c.invocation_at_hand.new.reader args c.in_ok-invocation.field-0 c.in-Some-2.invocation c.in-Some-2.is c.in_ok-invocation.ensures.some in
    let f = at_hand c.args.server.now.settings.protocol in
    let added : Adding (classes_of c.loop.state.ids.items) c.loop.plan r c.add_invoke.new.plan (classes_of c.loop.state.ids.items) = rw (c.as_slice-ids.ensures.value, c.as_slice.ensures.value) at c.in_ok-add_invoke.ensures in
    record {
      known = i.known;
      kept = stays_on c.args.reader.now c.loop.reader c.invocation_at_hand.new.reader i.kept c.invocation_at_hand.ensures.counted;
      requests = i.requests ++ r ∷ [];
      are = each_more (λ x. IsRequest c.args.server.now.settings.protocol x × (x ≢ RoundEnd)) i.requests r i.are (f.request, λ e. cc);
      took = took_more _ _ _ i.requests r bytes i.took took f;
      gathered = gathered_more (classes_of c.args.state.now.ids.items) (classes_of c.loop.state.ids.items) (classes_of c.loop.state.ids.items) i.requests r c.loop.plan c.add_invoke.new.plan i.gathered added;
    }

pub returns-in_err-add_invoke-clause-err : goal.returns-in_err-add_invoke-clause-err
returns-in_err-add_invoke-clause-err g c =
    let i = c.loop.invariant in
    let args : List Arg = c.invocation_at_hand.new.args.items in
    let r : Request = Invoke c.in-Some-2.invocation.class c.in-Some-2.invocation.key args in
    let (bytes, took, at_hand) = taken_at_hand g.R.Read.remaining c.loop.reader c.invocation_at_hand.new.reader args c.in_ok-invocation.field-0 c.in-Some-2.invocation c.in-Some-2.is c.in_ok-invocation.ensures.some in
    let f = at_hand c.args.server.now.settings.protocol in
    err_as c.from_residual-in_err-add_invoke.result c.from_residual-in_err-add_invoke.ensures.1 (λ e h. record {
      requests = i.requests ++ r ∷ [];
      extra = [];
      are = each_more (λ x. IsRequest c.args.server.now.settings.protocol x × (x ≢ RoundEnd)) i.requests r i.are (f.request, λ e. cc);
      took = subst (λ l. Consumes (g.R.Read.remaining c.args.reader.now.inner) (g.R.Read.remaining c.invocation_at_hand.new.reader.inner) l) (sym (append-nil (requests_text (i.requests ++ r ∷ [])))) (took_more _ _ _ i.requests r bytes i.took took f);
      stops = subst (λ f. Stops c.args.server.now.settings.protocol (i.requests ++ r ∷ []) [] f) (sym h) memory;
    })

pub returns-then-is_end-clause-ok : goal.returns-then-is_end-clause-ok
returns-then-is_end-clause-ok g c =
    let i = c.loop.invariant in
    let took = took_before g.R.Read.remaining (g.R.Read.remaining c.args.reader.now.inner) c.loop.reader c.invocation_at_hand.new.reader (requests_text i.requests) (is_none_of c.in_ok-invocation.field-0 c.in_default.is c.in_ok-invocation.ensures.none).0 i.took in
    let b = c.in_ok-request.ensures.bytes in
    let args : List Arg = c.read_request.new.args.items in
    let r : Request = with_args args c.in-Some-3.request in
    let f = frame_read c.args.server.now.settings.protocol (g.R.Read.remaining c.read_request.new.reader.inner) b.0 args c.in_ok-request.field-0 c.in-Some-3.request c.in-Some-3.is b.2 in
    let is : r ≡ RoundEnd = c.is_end.ensures.yes args c.if-is_end.true in
    record {
      requests = i.requests;
      are = i.are;
      took = took_more _ _ _ i.requests RoundEnd b.0 took b.1 (subst (λ (x : Request). IsRead c.args.server.now.settings.protocol b.0 x []) is f);
      gathered = i.gathered;
    }

pub returns-in_err-add-in-Some-3-clause-err : goal.returns-in_err-add-in-Some-3-clause-err
returns-in_err-add-in-Some-3-clause-err g c =
    let i = c.loop.invariant in
    let took = took_before g.R.Read.remaining (g.R.Read.remaining c.args.reader.now.inner) c.loop.reader c.invocation_at_hand.new.reader (requests_text i.requests) (is_none_of c.in_ok-invocation.field-0 c.in_default.is c.in_ok-invocation.ensures.none).0 i.took in
    let b = c.in_ok-request.ensures.bytes in
    let args : List Arg = c.read_request.new.args.items in
    let r : Request = with_args args c.in-Some-3.request in
    let f = frame_read c.args.server.now.settings.protocol (g.R.Read.remaining c.read_request.new.reader.inner) b.0 args c.in_ok-request.field-0 c.in-Some-3.request c.in-Some-3.is b.2 in
    let apart : r ≢ RoundEnd = c.is_end.ensures.no args c.if-is_end.false in
    err_as c.from_residual-in_err-add-in-Some-3.result c.from_residual-in_err-add-in-Some-3.ensures.1 (λ e h. record {
      requests = i.requests ++ r ∷ [];
      extra = [];
      are = each_more (λ x. IsRequest c.args.server.now.settings.protocol x × (x ≢ RoundEnd)) i.requests r i.are (f.request, apart);
      took = subst (λ l. Consumes (g.R.Read.remaining c.args.reader.now.inner) (g.R.Read.remaining c.read_request.new.reader.inner) l) (sym (append-nil (requests_text (i.requests ++ r ∷ [])))) (took_more _ _ _ i.requests r b.0 took b.1 f);
      stops = subst (λ f. Stops c.args.server.now.settings.protocol (i.requests ++ r ∷ []) [] f) (sym h) memory;
    })

pub returns-then-is_empty-clause-ok : goal.returns-then-is_empty-clause-ok
returns-then-is_empty-clause-ok g c =
    let i = c.loop.invariant in
    let took = took_before g.R.Read.remaining (g.R.Read.remaining c.args.reader.now.inner) c.loop.reader c.invocation_at_hand.new.reader (requests_text i.requests) (is_none_of c.in_ok-invocation.field-0 c.in_default.is c.in_ok-invocation.ensures.none).0 i.took in
    let b = c.in_ok-request.ensures.bytes in
    let e = end_read c.args.server.now.settings.protocol (g.R.Read.remaining c.read_request.new.reader.inner) b.0 c.read_request.new.args.items c.in_ok-request.field-0 c.in-None-2.is b.2 in
    let count = is_none _ c.is_empty.result c.is_empty.ensures c.if-is_empty.true in
    let empty : i.requests ≡ [] = nil_of i.requests (sym (as_many i.gathered) ∙ length-map c.loop.plan.works.items work_of ∙ omega (arith, count, c.loop.plan.works.ok.0)) in
    let first : Consumes (g.R.Read.remaining c.args.reader.now.inner) (g.R.Read.remaining c.invocation_at_hand.new.reader.inner) [] = subst (λ l. Consumes (g.R.Read.remaining c.args.reader.now.inner) (g.R.Read.remaining c.invocation_at_hand.new.reader.inner) (requests_text l)) empty took in
    let second : Consumes (g.R.Read.remaining c.invocation_at_hand.new.reader.inner) (g.R.Read.remaining c.read_request.new.reader.inner) [] = subst (λ l. Consumes (g.R.Read.remaining c.invocation_at_hand.new.reader.inner) (g.R.Read.remaining c.read_request.new.reader.inner) l) e.0 b.1 in
    (Consumes-trans _ _ _ [] [] first second, e.1)

pub returns-in-None-2-clause-err : goal.returns-in-None-2-clause-err
returns-in-None-2-clause-err g c =
    let i = c.loop.invariant in
    let took = took_before g.R.Read.remaining (g.R.Read.remaining c.args.reader.now.inner) c.loop.reader c.invocation_at_hand.new.reader (requests_text i.requests) (is_none_of c.in_ok-invocation.field-0 c.in_default.is c.in_ok-invocation.ensures.none).0 i.took in
    let b = c.in_ok-request.ensures.bytes in
    let e = end_read c.args.server.now.settings.protocol (g.R.Read.remaining c.read_request.new.reader.inner) b.0 c.read_request.new.args.items c.in_ok-request.field-0 c.in-None-2.is b.2 in
    let count = is_some _ c.is_empty.result c.is_empty.ensures c.if-is_empty.false in
    let same = as_many i.gathered in
    let works = length-map c.loop.plan.works.items work_of in
    record {
      requests = i.requests;
      extra = [];
      are = i.are;
      took = Consumes-trans _ _ _ (requests_text i.requests) [] took (subst (λ l. Consumes (g.R.Read.remaining c.invocation_at_hand.new.reader.inner) (g.R.Read.remaining c.read_request.new.reader.inner) l) e.0 b.1);
      stops = input_ended (λ h. let n = ap (λ (l : List Request). length l) h in absurd (count (omega (arith, n, same, works, c.loop.plan.works.ok.0))));
    }

pub returns-in_err-invocation-clause-err : goal.returns-in_err-invocation-clause-err
returns-in_err-invocation-clause-err g c = err_as c.from_residual.result c.from_residual.ensures.1 (λ e h.
    let i = c.loop.invariant in
    let took = took_before g.R.Read.remaining (g.R.Read.remaining c.args.reader.now.inner) c.loop.reader c.invocation_at_hand.new.reader (requests_text i.requests) c.in_err-invocation.ensures.err i.took in
    record {
      requests = i.requests;
      extra = [];
      are = i.are;
      took = subst (λ l. Consumes (g.R.Read.remaining c.args.reader.now.inner) (g.R.Read.remaining c.invocation_at_hand.new.reader.inner) l) (sym (append-nil (requests_text i.requests))) took;
      stops = subst (λ f. Stops c.args.server.now.settings.protocol i.requests [] f) (sym h) memory;
    })

pub returns-in_err-request-clause-err : goal.returns-in_err-request-clause-err
returns-in_err-request-clause-err g c =
    let i = c.loop.invariant in
    let took = took_before g.R.Read.remaining (g.R.Read.remaining c.args.reader.now.inner) c.loop.reader c.invocation_at_hand.new.reader (requests_text i.requests) (is_none_of c.in_ok-invocation.field-0 c.in_default.is c.in_ok-invocation.ensures.none).0 i.took in
    let b = c.in_err-request.ensures.bytes in
    let left = g.R.Read.remaining c.read_request.new.reader.inner in
    err_as c.from_residual-in_err-request.result c.from_residual-in_err-request.ensures.1 (λ e h. record {
      requests = i.requests;
      extra = b.0;
      are = i.are;
      took = Consumes-trans _ _ _ (requests_text i.requests) b.0 took b.1;
      stops = subst (λ f. Stops c.args.server.now.settings.protocol i.requests b.0 f) (sym h) (stops_of left i.requests b.0 c.in_err-request.field-0.0 b.2);
    })
