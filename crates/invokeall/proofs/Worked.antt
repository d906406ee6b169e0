-- The result of all workers.
use Rattle.std.proofs.Common.{Bool, ◌≡◌, ◌⊎◌, ℕ, zero, suc, ◌+◌, ◌<◌, ◌≤◌, ◌==◌, ltb, List, [], ◌∷◌, ◌++◌, length, map, get_or, if◌then◌else◌, Option, Some, None, Err, true, refl, sym, ap, ◌∙◌, subst, inl, inr, ⊎_elim, arith, append_assoc}
use Rattle.std.specs.Prelude.{flat_map}
use Rattle.std.specs.List.{All}
use Rattle.std.specs.List.Sorted.{IsPermutation}
use Rattle.std.proofs.lemmas.List.{map-append, length-map}
use Rattle.std.proofs.lemmas.List.Elements.{All-nil, All-cons, All-head, All-tail, All-same}
use Rattle.std.proofs.lemmas.List.Concat.{flat_map-append}
use Rattle.std.proofs.lemmas.List.Sorted.{IsPermutation-refl, IsPermutation-sym, IsPermutation-trans, IsPermutation-append_left, IsPermutation-append_right, IsPermutation-append_comm}
use mathlib.Core.Option.{some, some-injective, some-ne-none}
use lib.ListN.{get_elem?}
use Rattle.claims.specs.Counters.{Numbering, Share, AreAll, fresh, one_if, times, times_drawn}
use Rattle.claims.proofs.Totals.{total_append}
use Rattle.stripe.specs.declared.call.Reply.{Reply}
use Rattle.stripe.specs.History.{Call}
use Rattle.stripe.specs.Kept.{may_make}
use Rattle.cache.specs.Receipts.{Receipt}
use Rattle.cache.specs.declared.refusal.InvokeRefusal.TheVariants.{JournalFull, NoMemory}
use Rattle.cache.specs.Opened.{Opened, Sitting, HaveRoom}
use Rattle.round_outcome.specs.Outcome.{answered}
use Rattle.round_outcome.specs.Closed.{all_receipts, calls_told, calls_at, AreFiled, AllAreFiled}
use Rattle.invokeall.specs.declared.groups.Groups.{Groups}
use Rattle.invokeall.specs.declared.job.Job.{Job}
use Rattle.invokeall.specs.declared.worker.Worker.{Worker}
use Rattle.invokeall.specs.Jobs.{calls_of}
use Rattle.invokeall.specs.Groups.{group_of, groups_in, AreGroups}
use Rattle.invokeall.specs.Rounds.{Answer, reply_of, IsLaterSeat, IsFull, IsRound, IsAtHome, NeedMemory}
use Rattle.invokeall.specs.Workers.{IsReady, HasWorked, told_row, told_at, numbers}
use Rattle.invokeall.specs.Buffers.{Row, Places, HasRoom, blanks, placed, entries_of, seats_of, claimers_of, rows_of, IsThere}
use Rattle.invokeall.proofs.Members.{times_all_members, sum_if, same_if, if_one, if_below}
use Rattle.invokeall.proofs.Rows.{told_all, reply_in, AreOnce, told_rows, from_entry, blank_at, length_placed, length_blanks, all_filled}

pub length_calls : (jobs : List Job) → length (calls_of jobs) ≡ length jobs
length_calls [] = refl
length_calls (j ∷ js) = ap suc (length_calls js)

replies_in : (answers : List Answer) → map reply_in (map Some answers) ≡ map reply_of answers
replies_in [] = refl
replies_in (a ∷ rest) = ap (λ l. reply_of a ∷ l) (replies_in rest)

length_some : (answers : List Answer) → length (map Some answers) ≡ length answers
length_some [] = refl
length_some (a ∷ rest) = ap suc (length_some rest)

some_at : (answers : List Answer) (k : ℕ) (a : Answer) → get_elem? answers k ≡ some a → get_elem? (map Some answers) k ≡ some (Some a)
some_at [] k a e = absurd (some-ne-none a (sym e))
some_at (x ∷ xs) zero a e = ap (λ (y : Answer). some (Some y)) (some-injective x a e)
some_at (x ∷ xs) (suc k) a e = some_at xs k a e

some_same : (a b : Answer) → Some a ≡ Some b → a ≡ b
some_same a b e = ap (λ (p : Option Answer). value p a) e
  where
    value : Option Answer → Answer → Answer
    value (Some x) d = x
    value None d = d

module _ {L : Type 0} (loads : Bool) (d : Opened L) (counter : Numbering) (groups : Groups) (calls : List Call) where
  abbrev pub AllWorked : List Worker → List Worker → Type 0
  AllWorked [] [] = Unit {0}
  AllWorked (v ∷ vs) (w ∷ ws) = HasWorked loads d counter groups calls v w × AllWorked vs ws
  AllWorked _ _ = ⊥

  pub all_worked : (vs ws : List Worker) → length ws ≡ length vs → ((i : ℕ) (e : Worker) → i < length vs → HasWorked loads d counter groups calls (get_or vs i e) (get_or ws i e)) → AllWorked vs ws
  all_worked [] [] same each = tt
  all_worked [] (w ∷ ws) same each = absurd (omega arith)
  all_worked (v ∷ vs) [] same each = absurd (omega arith)
  all_worked (v ∷ vs) (w ∷ ws) same each = (each 0 v (omega arith), all_worked vs ws (omega arith) (λ i e h. each (suc i) e (omega arith)))

  pub as_long : (vs ws : List Worker) → AllWorked vs ws → length (seats_of ws) ≡ length (seats_of vs)
  as_long [] [] a = refl
  as_long [] (w ∷ ws) a = absurd a
  as_long (v ∷ vs) [] a = absurd a
  as_long (v ∷ vs) (w ∷ ws) a = ap suc (as_long vs ws a.1)

  pub all_later : (vs ws : List Worker) → AllWorked vs ws → (i : ℕ) (x y : Sitting) → get_elem? (seats_of vs) i ≡ some x → get_elem? (seats_of ws) i ≡ some y → IsLaterSeat x y
  all_later [] ws a i x y e f = absurd (some-ne-none x (sym e))
  all_later (v ∷ vs) [] a i x y e f = absurd a
  all_later (v ∷ vs) (w ∷ ws) a zero x y e f = subst (λ (z : Sitting). IsLaterSeat z y) (some-injective v.seat x e) (subst (λ (z : Sitting). IsLaterSeat v.seat z) (some-injective w.seat y f) a.0.answered.seat)
  all_later (v ∷ vs) (w ∷ ws) a (suc i) x y e f = all_later vs ws a.1 i x y e f

  pub all_filed : (vs ws : List Worker) → AllWorked vs ws → AllAreFiled (length d.tables) (seats_of vs) → AllAreFiled (length d.tables) (seats_of ws)
  all_filed [] [] a h i y f = absurd (some-ne-none y (sym f))
  all_filed [] (w ∷ ws) a h i y f = absurd a
  all_filed (v ∷ vs) [] a h i y f = absurd a
  all_filed (v ∷ vs) (w ∷ ws) a h zero y f = subst (λ (z : Sitting). AreFiled (length d.tables) z.receipts) (some-injective w.seat y f) (a.0.answered.filed (h 0 v.seat refl))
  all_filed (v ∷ vs) (w ∷ ws) a h (suc i) y f = all_filed vs ws a.1 (λ j x e. h (suc j) x e) i y f

  abbrev row_told : Worker → List (Call × Reply)
  row_told w = told_row calls w.answers.items

  crossed : (p q r s : List (Call × Reply)) → IsPermutation ((p ++ r) ++ (q ++ s)) ((p ++ q) ++ (r ++ s))
  crossed p q r s =
      let a : IsPermutation ((r ++ q) ++ s) ((q ++ r) ++ s) = IsPermutation-append_left s (r ++ q) (q ++ r) (IsPermutation-append_comm r q) in
      let b : IsPermutation (p ++ ((r ++ q) ++ s)) (p ++ ((q ++ r) ++ s)) = IsPermutation-append_right p ((r ++ q) ++ s) ((q ++ r) ++ s) a in
      let left : p ++ ((r ++ q) ++ s) ≡ (p ++ r) ++ (q ++ s) = ap (λ l. p ++ l) (append_assoc r q s) ∙ sym (append_assoc p r (q ++ s)) in
      let right : p ++ ((q ++ r) ++ s) ≡ (p ++ q) ++ (r ++ s) = ap (λ l. p ++ l) (append_assoc q r s) ∙ sym (append_assoc p q (r ++ s)) in
      subst (λ l. IsPermutation l ((p ++ q) ++ (r ++ s))) left (subst (λ l. IsPermutation (p ++ ((r ++ q) ++ s)) l) right b)

  -- The calls at a list of seats, by those at its first seat.
  seat_more : (s : Sitting) (ss : List Sitting) → calls_at (s ∷ ss) ≡ calls_told s.receipts ++ calls_at ss
  seat_more s ss = map-append (λ (t : Receipt). (t.call, t.reply)) s.receipts (all_receipts ss)

  pub told_worked : (vs ws : List Worker) → AllWorked vs ws → IsPermutation (calls_at (seats_of vs) ++ flat_map row_told ws) (calls_at (seats_of ws))
  told_worked [] [] a = IsPermutation-refl []
  told_worked [] (w ∷ ws) a = absurd a
  told_worked (v ∷ vs) [] a = absurd a
  told_worked (v ∷ vs) (w ∷ ws) a =
      let p = calls_told v.seat.receipts in
      let q = row_told w in
      let r = calls_at (seats_of vs) in
      let s = flat_map row_told ws in
      let rest : IsPermutation ((p ++ q) ++ (r ++ s)) ((p ++ q) ++ calls_at (seats_of ws)) = IsPermutation-append_right (p ++ q) (r ++ s) (calls_at (seats_of ws)) (told_worked vs ws a.1) in
      let all : IsPermutation ((p ++ r) ++ (q ++ s)) ((p ++ q) ++ calls_at (seats_of ws)) =
      IsPermutation-trans ((p ++ r) ++ (q ++ s)) ((p ++ q) ++ (r ++ s)) ((p ++ q) ++ calls_at (seats_of ws)) (crossed p q r s) rest in
      let new : (p ++ q) ++ calls_at (seats_of ws) ≡ calls_at (seats_of (w ∷ ws)) = ap (λ l. l ++ calls_at (seats_of ws)) (sym a.0.answered.receipts) ∙ sym (seat_more w.seat (seats_of ws)) in
      subst (λ l. IsPermutation (l ++ (q ++ s)) (calls_at (seats_of (w ∷ ws)))) (sym (seat_more v.seat (seats_of vs))) (subst (λ l. IsPermutation ((p ++ r) ++ (q ++ s)) l) new all)

  pub told_entries : (ws : List Worker) → told_row calls (entries_of (rows_of ws)) ≡ flat_map row_told ws
  told_entries [] = refl
  told_entries (w ∷ ws) = flat_map-append (λ (a : ℕ × Answer). told_at calls a.0 a.1) w.answers.items (entries_of (rows_of ws)) ∙ ap (λ l. row_told w ++ l) (told_entries ws)

  numbers_append : (xs ys : List (ℕ × Answer)) → numbers (xs ++ ys) ≡ numbers xs ++ numbers ys
  numbers_append xs ys = map-append (λ (a : ℕ × Answer). a.0) xs ys

  more_entries : (x : ℕ) (w : Worker) (ws : List Worker) → times x (numbers (entries_of (rows_of (w ∷ ws)))) ≡ times x (numbers w.answers.items) + times x (numbers (entries_of (rows_of ws)))
  more_entries x w ws = ap (λ l. times x l) (numbers_append w.answers.items (entries_of (rows_of ws))) ∙ total_append (λ (y : ℕ). one_if (x == y)) (numbers w.answers.items) (numbers (entries_of (rows_of ws)))

  -- The group of each call.
  abbrev of : List ℕ
  of = groups_in groups calls

  -- A call has one answer for each claim of its group.
  drawn_entries : (vs ws : List Worker) → AllWorked vs ws → (x : ℕ) → times x (numbers (entries_of (rows_of ws))) ≡ (if ltb x (length calls) then times_drawn (get_or of x 0) (claimers_of ws) else 0)
  drawn_entries [] [] a x = same_if (ltb x (length calls)) 0
  drawn_entries [] (w ∷ ws) a x = absurd a
  drawn_entries (v ∷ vs) [] a x = absurd a
  drawn_entries (v ∷ vs) (w ∷ ws) a x =
      let e = ap (times x) a.0.answered.numbers_are in
      let f = times_all_members of a.0.order (length calls) x in
      let same = a.0.claimed (get_or of x 0) in
      let chosen = ap (λ (n : ℕ). if ltb x (length calls) then n else 0) same in
      let g = drawn_entries vs ws a.1 x in
      let h = more_entries x w ws in
      let i = sum_if (ltb x (length calls)) (times (get_or of x 0) w.claimer.drawn) (times_drawn (get_or of x 0) (claimers_of ws)) in omega arith

  -- Each group was claimed exactly once, and no other number more than once.
  pub record IsEachOnce (ws : List Worker) : Type 0 where
    pub most : (x : ℕ) → times_drawn x (claimers_of ws) ≤ 1
    pub groups_are : (x : ℕ) → x < counter.jobs → times_drawn x (claimers_of ws) ≡ 1

  entries_once : (vs ws : List Worker) → AllWorked vs ws → IsEachOnce ws → AreOnce (entries_of (rows_of ws))
  entries_once vs ws a each = record {
    once = λ x. let e = drawn_entries vs ws a x in let f = if_one (ltb x (length calls)) (times_drawn (get_or of x 0) (claimers_of ws)) (each.most (get_or of x 0)) in omega arith;
  }

  -- So each call has its answer.
  pub are_filled : (vs ws : List Worker) → AllWorked vs ws → IsEachOnce ws → AreGroups calls groups → counter.jobs ≡ length groups.firsts.items → All IsThere (placed (blanks (length calls)) (entries_of (rows_of ws)))
  are_filled vs ws a each linked same = all_filled (length calls) (entries_of (rows_of ws)) (λ k below.
      let long : length of ≡ length calls = length-map calls (group_of (length groups.firsts.items)) in
      let group : ℕ = get_or of k 0 in
      let some_group : group < length groups.firsts.items = linked.within k (omega arith) (omega arith) in
      let once = each.groups_are group (omega arith) in
      let e = drawn_entries vs ws a k in
      let f = if_below k (length calls) (times_drawn group (claimers_of ws)) below in omega arith)

  -- If there is a worker, the first claimer found no number left.
  pub first_done : (vs ws : List Worker) → AllWorked vs ws → 0 < length vs → (s : Share) × (get_elem? (claimers_of ws) 0 ≡ some s) × (s.done ≡ true)
  first_done [] ws a some_worker = absurd (omega arith)
  first_done (v ∷ vs) [] a some_worker = absurd a
  first_done (v ∷ vs) (w ∷ ws) a some_worker = (w.claimer, refl, a.0.done)

  -- All claimers belong to the counter.
  pub claimers_at : (vs ws : List Worker) → AllWorked vs ws → (i : ℕ) (s : Share) → get_elem? (claimers_of ws) i ≡ some s → s.counter ≡ counter
  claimers_at [] [] a i s e = absurd (some-ne-none s (sym e))
  claimers_at [] (w ∷ ws) a i s e = absurd a
  claimers_at (v ∷ vs) [] a i s e = absurd a
  claimers_at (v ∷ vs) (w ∷ ws) a zero s e = ap (λ (t : Share). t.counter) (sym (some-injective w.claimer s e)) ∙ a.0.at
  claimers_at (v ∷ vs) (w ∷ ws) a (suc i) s e = claimers_at vs ws a.1 i s e

  at_append : (xs ys : List (ℕ × Answer)) (j : ℕ) (e : ℕ × Answer) → get_elem? (xs ++ ys) j ≡ some e → ((m : ℕ) × (get_elem? xs m ≡ some e)) ⊎ ((m : ℕ) × (get_elem? ys m ≡ some e))
  at_append [] ys j e h = inr (j, h)
  at_append (x ∷ xs) ys zero e h = inl (0, h)
  at_append (x ∷ xs) ys (suc j) e h = ⊎_elim
      (λ (g : (m : ℕ) × (get_elem? xs m ≡ some e)). inl (suc g.0, g.1))
      (λ (g : (m : ℕ) × (get_elem? ys m ≡ some e)). inr g)
      (at_append xs ys j e h)

  pub full_shown : (vs ws : List Worker) → AllWorked vs ws → (k : ℕ) (c : Call) → get_elem? calls k ≡ some c → (j : ℕ) → get_elem? (entries_of (rows_of ws)) j ≡ some (k, Err JournalFull)
      → (i : ℕ) × (s : Sitting) × (get_elem? (seats_of ws) i ≡ some s) × IsFull d c s
  full_shown [] [] a k c there j e = absurd (some-ne-none (k, Err JournalFull) (sym e))
  full_shown [] (w ∷ ws) a k c there j e = absurd a
  full_shown (v ∷ vs) [] a k c there j e = absurd a
  full_shown (v ∷ vs) (w ∷ ws) a k c there j e = ⊎_elim
      (λ (g : (m : ℕ) × (get_elem? w.answers.items m ≡ some (k, Err JournalFull))). (0, w.seat, refl, a.0.answered.full g.0 k c g.1 there))
      (λ (g : (m : ℕ) × (get_elem? (entries_of (rows_of ws)) m ≡ some (k, Err JournalFull))). let f = full_shown vs ws a.1 k c there g.0 g.1 in (suc f.0, f.1, f.2, f.3))
      (at_append w.answers.items (entries_of (rows_of ws)) j (k, Err JournalFull) e)

  told_by_all : (vs ws : List Worker) → AllWorked vs ws → IsEachOnce ws → (answers : List Answer) → map Some answers ≡ placed (blanks (length calls)) (entries_of (rows_of ws))
      → IsPermutation (calls_at (seats_of vs) ++ answered calls (map reply_of answers)) (calls_at (seats_of ws))
  told_by_all vs ws a each answers are =
      let es : List (ℕ × Answer) = entries_of (rows_of ws) in
      let old : List (Call × Reply) = calls_at (seats_of vs) in
      let here : List (Call × Reply) = answered calls (map reply_of answers) in
      let same : told_all calls (placed (blanks (length calls)) es) ≡ here =
      ap (told_all calls) (sym are) ∙ ap (answered calls) (replies_in answers) in
      let told : IsPermutation (told_row calls es) here = subst (IsPermutation (told_row calls es)) same (told_rows calls es (entries_once vs ws a each)) in
      let one : IsPermutation (old ++ here) (old ++ told_row calls es) = IsPermutation-append_right old here (told_row calls es) (IsPermutation-sym (told_row calls es) here told) in
      let two : IsPermutation (old ++ told_row calls es) (calls_at (seats_of ws)) = subst (λ l. IsPermutation (old ++ l) (calls_at (seats_of ws))) (sym (told_entries ws)) (told_worked vs ws a) in
      IsPermutation-trans (old ++ here) (old ++ told_row calls es) (calls_at (seats_of ws)) one two

  full_by_all : (vs ws : List Worker) → AllWorked vs ws → (answers : List Answer) → map Some answers ≡ placed (blanks (length calls)) (entries_of (rows_of ws))
      → (k : ℕ) (c : Call) → get_elem? answers k ≡ some (Err JournalFull) → get_elem? calls k ≡ some c → (i : ℕ) × (s : Sitting) × (get_elem? (seats_of ws) i ≡ some s) × IsFull d c s
  full_by_all vs ws a answers are k c e there =
      let es : List (ℕ × Answer) = entries_of (rows_of ws) in
      let full : Answer = Err JournalFull in
      ⊎_elim
      (λ (g : get_elem? (blanks (length calls)) k ≡ some (Some full)). absurd (let f = blank_at (length calls) k (Some full) g in cc))
      (λ (g : (j : ℕ) × (b : Answer) × (Some full ≡ Some b) × (get_elem? es j ≡ some (k, b))).
      let same : g.1 ≡ full = sym (some_same full g.1 g.2) in
      full_shown vs ws a k c there g.0 (subst (λ (b : Answer). get_elem? es g.0 ≡ some (k, b)) same g.3))
      (from_entry (blanks (length calls)) es k (Some full) (subst (λ (l : Places). get_elem? l k ≡ some (Some full)) are (some_at answers k full e)))

  need_shown : (vs ws : List Worker) → AllWorked vs ws → HaveRoom (length calls) (seats_of vs) → (k : ℕ) (c : Call) → get_elem? calls k ≡ some c → (j : ℕ) → get_elem? (entries_of (rows_of ws)) j ≡ some (k, Err NoMemory)
      → may_make loads c ≡ true
  need_shown [] [] a room k c there j e = absurd (some-ne-none (k, Err NoMemory) (sym e))
  need_shown [] (w ∷ ws) a room k c there j e = absurd a
  need_shown (v ∷ vs) [] a room k c there j e = absurd a
  need_shown (v ∷ vs) (w ∷ ws) a room k c there j e = ⊎_elim
      (λ (g : (m : ℕ) × (get_elem? w.answers.items m ≡ some (k, Err NoMemory))). a.0.answered.memory (room 0 v.seat refl) g.0 k c g.1 there)
      (λ (g : (m : ℕ) × (get_elem? (entries_of (rows_of ws)) m ≡ some (k, Err NoMemory))). need_shown vs ws a.1 (λ i s h. room (suc i) s h) k c there g.0 g.1)
      (at_append w.answers.items (entries_of (rows_of ws)) j (k, Err NoMemory) e)

  -- Each call refused out of memory may create an entry, if each seat had room for all calls.
  pub need_by_all : (vs ws : List Worker) (old : List Sitting) (answers : List Answer) → AllWorked vs ws → old ≡ seats_of vs → map Some answers ≡ placed (blanks (length calls)) (entries_of (rows_of ws))
      → HaveRoom (length calls) old → NeedMemory loads calls answers
  need_by_all vs ws old answers a before are room k c e there =
      let es : List (ℕ × Answer) = entries_of (rows_of ws) in
      let lack : Answer = Err NoMemory in
      ⊎_elim
      (λ (g : get_elem? (blanks (length calls)) k ≡ some (Some lack)). absurd (let f = blank_at (length calls) k (Some lack) g in cc))
      (λ (g : (j : ℕ) × (b : Answer) × (Some lack ≡ Some b) × (get_elem? es j ≡ some (k, b))).
      let same : g.1 ≡ lack = sym (some_same lack g.1 g.2) in
      need_shown vs ws a (subst (HaveRoom (length calls)) before room) k c there g.0 (subst (λ (b : Answer). get_elem? es g.0 ≡ some (k, b)) same g.3))
      (from_entry (blanks (length calls)) es k (Some lack) (subst (λ (l : Places). get_elem? l k ≡ some (Some lack)) are (some_at answers k lack e)))

  -- The results of the workers make a round.
  pub is_round : (vs ws : List Worker) (old new : List Sitting) (answers : List Answer) → AllWorked vs ws → old ≡ seats_of vs → new ≡ seats_of ws
      → map Some answers ≡ placed (blanks (length calls)) (entries_of (rows_of ws)) → IsEachOnce ws → IsRound d calls old new answers
  is_round vs ws old new answers a before after are each =
      subst (λ (l : List Sitting). IsRound d calls l new answers) (sym before)
      (subst (λ (l : List Sitting). IsRound d calls (seats_of vs) l answers) (sym after) (record {
        count = sym (length_some answers) ∙ ap length are ∙ length_placed (blanks (length calls)) (entries_of (rows_of ws)) ∙ length_blanks (length calls);
        seats = as_long vs ws a;
        later = all_later vs ws a;
        receipts = told_by_all vs ws a each answers are;
        filed = all_filed vs ws a;
        full = full_by_all vs ws a answers are;
      }))

  -- Workers are ready if they have seats of this cache, fresh claimers, and empty lists with capacity for all calls.
  pub all_ready : (vs : List Worker) (seats : List Sitting) (shares : List Share) (rows : List Row) → seats_of vs ≡ seats → claimers_of vs ≡ shares → rows_of vs ≡ rows
      → All (IsAtHome d) seats → ((i : ℕ) (s : Share) → get_elem? shares i ≡ some s → s ≡ fresh counter) → All (HasRoom (length calls)) rows → All (IsReady d counter (length calls)) vs
  all_ready [] seats shares rows a b e home each room = All-nil (IsReady d counter (length calls))
  all_ready (v ∷ vs) seats shares rows a b e home each room =
      let h = All-same (IsAtHome d) (v.seat ∷ seats_of vs) seats a home in
      let r = All-same (HasRoom (length calls)) (v.answers ∷ rows_of vs) rows e room in
      let f : (i : ℕ) (s : Share) → get_elem? (v.claimer ∷ claimers_of vs) i ≡ some s → s ≡ fresh counter = subst (λ (l : List Share). (i : ℕ) (s : Share) → get_elem? l i ≡ some s → s ≡ fresh counter) (sym b) each in
      let mine = All-head (HasRoom (length calls)) v.answers (rows_of vs) r in
      All-cons (IsReady d counter (length calls)) v vs (record { home = All-head (IsAtHome d) v.seat (seats_of vs) h; claimer = f 0 v.claimer refl; answers = mine.0; room = mine.1 })
      (all_ready vs (seats_of vs) (claimers_of vs) (rows_of vs) refl refl refl (All-tail (IsAtHome d) v.seat (seats_of vs) h) (λ i s g. f (suc i) s g) (All-tail (HasRoom (length calls)) v.answers (rows_of vs) r))

  length_claimers : (ws : List Worker) → length (claimers_of ws) ≡ length ws
  length_claimers [] = refl
  length_claimers (w ∷ ws) = ap suc (length_claimers ws)

  -- The claimers of the workers are all claimers of the counter.
  pub all_claimers : (vs ws : List Worker) → AllWorked vs ws → length ws ≡ counter.workers → AreAll counter (claimers_of ws)
  all_claimers vs ws a long = record { count = length_claimers ws ∙ long; each = claimers_at vs ws a }

  -- `IsEachOnce` holds by the contract of the counter's close.
  pub each_once : (vs ws : List Worker) (shares : List Share) → AllWorked vs ws → 0 < length vs → shares ≡ claimers_of ws → ((x : ℕ) → times_drawn x shares ≤ 1)
      → ((c : ℕ) (s : Share) → get_elem? shares c ≡ some s → s.done ≡ true → (x : ℕ) → x < counter.jobs → times_drawn x shares ≡ 1) → IsEachOnce ws
  each_once vs ws shares a some_worker are most done =
      let first = first_done vs ws a some_worker in
      let there : get_elem? shares 0 ≡ some first.0 = ap (λ (l : List Share). get_elem? l 0) are ∙ first.1 in
      record {
        most = λ x. subst (λ (l : List Share). times_drawn x l ≤ 1) are (most x);
        groups_are = λ x below. subst (λ (l : List Share). times_drawn x l ≡ 1) are (done 0 first.0 there first.2 x below);
      }

pub length_seats : (ws : List Worker) → length (seats_of ws) ≡ length ws
length_seats [] = refl
length_seats (w ∷ ws) = ap suc (length_seats ws)
