-- Parts of a list of calls: from a place on so many calls, each of them a step's bytes; and the four parts of a schedule.
use Prim.Native.Nat.{ℕ, zero, suc, ◌+◌, ◌*◌, ◌-◌, ◌/◌, ◌%◌, ◌≤◌, ◌<◌}
use native.Mathlib.Nat.{mul-add-div_right, mul-add-mod_self_right, mod-eq_of_lt, div-eq_of_lt, mul-le-mul_right, suc-mul}
use native.Mathlib.Decide.{dec_lt}
use native.Mathlib.Omega.{arith}
use mathlib.Core.Bool.{cond}
use mathlib.Core.List.{List, [], ◌++◌}
use mathlib.Core.Path.{◌≡◌, refl, sym, ap, subst, ◌∙◌}
use lib.Dec.{ltb}
use lib.ListN.{length, length-append, get_or-append}
use lib.Seq.{get_or-append-add}
use borrow.Author.Tests.{lt-ltb, le-ltb}
use Rattle.base.specs.Tab.{tab}
use Rattle.base.proofs.Tab.{length-tab, get_or-tab}
use Rattle.rules.specs.declared.Step.{Step}
use Rattle.rules.specs.declared.Step.TheVariants.{Fetch, SendHash, Hear, Back}
use Rattle.std.specs.Prelude.{Some}
use Rattle.rules.specs.Form.{read}
use Rattle.rules.specs.Fields.{fields}
use Rattle.rules.specs.Table.{Table}
use Rattle.rules.specs.State.{State}
use Rattle.rules.specs.Rules.{next}
use Rattle.form.specs.Written.{written}
use Rattle.form.proofs.Written.{read-written}
use Rattle.liveness.specs.Places.{Behaviour, call_at, step_at, held_at}
use Rattle.liveness.specs.Schedule.{for_peers, for_pairs, other_than, for_others, fetch_and_hash, hear_and_back}
use Rattle.liveness.proofs.Places.{Obeys, now_step}

-- the calls from place `from` on are those of the steps f 0, f 1, .., which name no board
pub record Part (calls : List (List ℕ)) (from size : ℕ) (f : ℕ → Step) : Type 0 where
  pub each : (a : ℕ) → a < size → call_at calls (from + a) ≡ written (f a)
  pub plain : (a : ℕ) → (fields (f a)).board ≡ 0

pub said : {calls : List (List ℕ)} {from size : ℕ} {f : ℕ → Step} → Part calls from size f → (a : ℕ) → a < size
    → step_at calls (from + a) ≡ Some (f a)
said {calls} {from} {size} {f} P a l = ap read (P.each a l) ∙ read-written (f a) (omega (arith, P.plain a))

-- along a part: what holds where it begins, and is passed on by each of its steps, holds at each of its places
module _ {T : Table} {E : Behaviour} (O : Obeys T E) (earlier later : List (List ℕ)) {from size : ℕ} {f : ℕ → Step}
    (F : Part later from size f) where
  abbrev now : ℕ → State
  now i = held_at E earlier later i

  pub walk : (P : ℕ → State → Type 0) → P 0 (now from)
      → ((a : ℕ) → a < size → P a (now (from + a)) → P (suc a) (next T (now (from + a)) (f a)))
      → (a : ℕ) → a ≤ size → P a (now (from + a))
  walk P z g zero l = subst (λ (i : ℕ). P 0 (now i)) {x = from} {y = from + 0} (omega arith) z
  walk P z g (suc a) l =
      subst (λ (i : ℕ). P (suc a) (now i)) {x = suc (from + a)} {y = from + suc a} (omega arith)
      (subst (P (suc a)) (sym (now_step O earlier later (from + a) (f a) (said F a l))) (g a l (walk P z g a (omega arith))))

part-tab : (n : ℕ) (f : ℕ → Step) → ((a : ℕ) → (fields (f a)).board ≡ 0) → Part (tab n (λ i. written (f i))) 0 n f
part-tab n f plain = record { each = λ a l. from_0 a ∙ get_or-tab n (λ i. written (f i)) a [] l; plain = plain }
  where
    from_0 : (a : ℕ) → call_at (tab n (λ i. written (f i))) (0 + a) ≡ call_at (tab n (λ i. written (f i))) a
    from_0 a = ap (call_at (tab n (λ i. written (f i)))) {x = 0 + a} {y = a} (omega arith)

-- in a list of two
module _ (xs ys : List (List ℕ)) {from size : ℕ} {f : ℕ → Step} where
  part-first : Part xs from size f → from + size ≤ length xs → Part (xs ++ ys) from size f
  part-first P l = record { each = λ a h. get_or-append xs ys [] (from + a) (omega arith) ∙ P.each a h; plain = P.plain }

  part-second : Part ys from size f → (m : ℕ) → length xs + from ≡ m → Part (xs ++ ys) m size f
  part-second P m e = record { each = λ a h. at a ∙ P.each a h; plain = P.plain }
    where
      at : (a : ℕ) → call_at (xs ++ ys) (m + a) ≡ call_at ys (from + a)
      at a = ap (call_at (xs ++ ys)) {x = m + a} {y = length xs + (from + a)} (omega arith) ∙ get_or-append-add xs ys (from + a) []

-- rows of w places: the place of a row and a column, and back
module _ (w row col : ℕ) (h : col < w) where
  pub cell-lt : (n : ℕ) → row < n → row * w + col < n * w
  cell-lt n l =
      let whole : suc row * w ≤ n * w = mul-le-mul_right w l in
      omega (arith, suc-mul row w, whole)

  pub cell_row : (row * w + col) / w ≡ row
  cell_row = rw (mul-add-div_right {m = w} (omega arith) row col, div-eq_of_lt {n = col} {m = w} h) (omega arith)

  pub cell_col : (row * w + col) % w ≡ col
  cell_col = rw (mul-add-mod_self_right row w col) (mod-eq_of_lt {n = col} {m = w} h)

-- where k stands among the peers but j
abbrev pub among : ℕ → ℕ → ℕ
among j k = cond (ltb k j) (k - 1) (k - 2)

module _ (n j k : ℕ) (hj : (1 ≤ j) × (j ≤ n)) (hk : (1 ≤ k) × (k ≤ n)) (d : j ≡ k → ⊥) where
  pub among-other : (among j k < n - 1) × (other_than j (among j k) ≡ k)
  among-other = go (dec_lt k j)
    where
      go : Dec (k < j) → (among j k < n - 1) × (other_than j (among j k) ≡ k)
      go (yes l) = rw (lt-ltb k j l) (omega arith, rw (lt-ltb (k - 1 + 1) j (omega arith)) (omega arith))
      go (no l) = rw (le-ltb k j (omega arith)) (omega arith, rw (le-ltb (k - 2 + 1) j (omega arith)) (omega arith))

-- the four parts of a schedule
module _ (n p : ℕ) (entry : ℕ → ℕ) where
  abbrev M : ℕ
  M = n * (n - 1)

  abbrev N : ℕ
  N = n * n

  abbrev pub fetch : ℕ → Step
  fetch a = Fetch (a / (n - 1) + 1) (other_than (a / (n - 1) + 1) (a % (n - 1))) p

  abbrev pub send : ℕ → Step
  send a = SendHash (a + 1) p

  abbrev pub hear : ℕ → Step
  hear a = Hear (a / n + 1) (entry (a % n + 1))

  abbrev pub back : ℕ → Step
  back a = Back (a + 1)

  pub record Scheduled (calls : List (List ℕ)) : Type 0 where
    pub fetches : Part calls 0 M fetch
    pub hashes : Part calls M n send
    pub hears : Part calls (M + n) N hear
    pub backs : Part calls (M + n + N) n back
    pub long : length calls ≡ M + n + N + n
    -- all hashes are sent when the second part ends
    pub first_two : length (fetch_and_hash n p) ≡ M + n

  -- each two, and all four
  abbrev fs : List (List ℕ)
  fs = for_others n (λ j k. Fetch j k p)

  abbrev ss : List (List ℕ)
  ss = for_peers n (λ j. SendHash j p)

  abbrev hs : List (List ℕ)
  hs = for_pairs n (λ j k. Hear j (entry k))

  abbrev bs : List (List ℕ)
  bs = for_peers n Back

  long_fs : length fs ≡ M
  long_fs = length-tab M (λ i. written (fetch i))

  long_hs : length hs ≡ N
  long_hs = length-tab N (λ i. written (hear i))

  long_one : length (fs ++ ss) ≡ M + n
  long_one = omega (arith, length-append fs ss, long_fs, length-tab n (λ i. written (send i)))

  long_two : length (hs ++ bs) ≡ N + n
  long_two = omega (arith, length-append hs bs, long_hs, length-tab n (λ i. written (back i)))

  pub scheduled : Scheduled (fetch_and_hash n p ++ hear_and_back n entry)
  scheduled =
      let fetching = part-first fs ss (part-tab M fetch (λ a. refl)) (omega (arith, long_fs)) in
      let sending = part-second fs ss (part-tab n send (λ a. refl)) M (omega (arith, long_fs)) in
      let hearing = part-first hs bs (part-tab N hear (λ a. refl)) (omega (arith, long_hs)) in
      let backing = part-second hs bs (part-tab n back (λ a. refl)) N (omega (arith, long_hs)) in
      record {
        fetches = part-first (fs ++ ss) (hs ++ bs) fetching (omega (arith, long_one));
        hashes = part-first (fs ++ ss) (hs ++ bs) sending (omega (arith, long_one));
        hears = part-second (fs ++ ss) (hs ++ bs) hearing (M + n) (omega (arith, long_one));
        backs = part-second (fs ++ ss) (hs ++ bs) backing (M + n + N) (omega (arith, long_one));
        long = omega (arith, length-append (fs ++ ss) (hs ++ bs), long_one, long_two);
        first_two = long_one;
      }

  -- what holds in each part holds at every place
  pub in_parts : (Q : ℕ → Type 0) → ((a : ℕ) → a < M → Q (0 + a)) → ((a : ℕ) → a < n → Q (M + a)) → ((a : ℕ) → a < N → Q (M + n + a))
      → ((a : ℕ) → a < n → Q (M + n + N + a)) → (i : ℕ) → i < M + n + N + n → Q i
  in_parts Q f g h b i l = go (dec_lt i M) (dec_lt i (M + n)) (dec_lt i (M + n + N))
    where
      go : Dec (i < M) → Dec (i < M + n) → Dec (i < M + n + N) → Q i
      go (yes u) v w = subst Q (omega arith) (f i u)
      go (no u) (yes v) w = subst Q (omega arith) (g (i - M) (omega arith))
      go (no u) (no v) (yes w) = subst Q (omega arith) (h (i - (M + n)) (omega arith))
      go (no u) (no v) (no w) = subst Q (omega arith) (b (i - (M + n + N)) (omega arith))
