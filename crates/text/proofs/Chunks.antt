-- Chunks joined are the texts, each fits, and as many chunks as there are texts reach the last.
use Prim.Native.Nat.{ℕ, zero, suc, ◌+◌, ◌-◌, ◌≤◌, ◌<◌}
use native.Mathlib.Decide.{dec_lt}
use native.Mathlib.Nat.{add-zero, add-suc}
use native.Mathlib.Numerals.{add-one}
use native.Mathlib.Omega.{arith}
use mathlib.Core.Bool.{Bool, true, false, cond}
use mathlib.Core.List.{List, [], ◌++◌, append-nil, append_assoc}
use mathlib.Core.Path.{◌≡◌, refl, sym, ap, subst, ◌∙◌}
use lib.Dec.{leb}
use lib.ListN.{length, length-append}
use borrow.Author.Tests.{le-leb, lt-leb, leb-true}
use Rattle.text.specs.Wrote.{each}
use Rattle.text.specs.Chunks.{from, each_from, fitting, chunk_end, chunk_start, chunk, InChunks}

module _ (f : ℕ → List ℕ) where
  -- texts from a place on: none, one more at the end, one more at the start

  pub from-none : (a : ℕ) → each_from f a a ≡ []
  unfolding each_from each
  from-none a = ap (each (from f a)) {x = a - a} {y = 0} (omega arith)

  pub from_more : (a k : ℕ) → a ≤ k → each_from f a (k + 1) ≡ each_from f a k ++ f k
  unfolding each_from each from
  from_more a k l =
      ap (each (from f a)) {x = k + 1 - a} {y = suc (k - a)} (omega arith)
      ∙ ap (λ (i : ℕ). each (from f a) (k - a) ++ f i) {x = a + (k - a)} {y = k} (omega arith)

  first : (a m : ℕ) → each (from f a) (suc m) ≡ f a ++ each (from f (a + 1)) m
  unfolding each from
  first a zero = ap f (add-zero a) ∙ sym (append-nil (f a))
  first a (suc m) =
      ap (λ (l : List ℕ). l ++ f (a + suc m)) (first a m)
      ∙ append_assoc (f a) (each (from f (a + 1)) m) (f (a + suc m))
      ∙ ap (λ (i : ℕ). f a ++ (each (from f (a + 1)) m ++ f i)) {x = a + suc m} {y = a + 1 + m} (omega arith)

  -- the texts before a place, and those from there on
  pub up_to : (a b : ℕ) → a ≤ b → each f b ≡ each f a ++ each_from f a b
  unfolding each_from each from
  up_to a b l = ap (each f) {x = b} {y = a + (b - a)} (omega arith) ∙ go (b - a)
    where
      go : (m : ℕ) → each f (a + m) ≡ each f a ++ each (from f a) m
      go zero = ap (each f) (add-zero a) ∙ sym (append-nil (each f a))
      go (suc m) =
          ap (each f) (add-suc a m) ∙ ap (λ (l : List ℕ). l ++ f (a + m)) (go m)
          ∙ append_assoc (each f a) (each (from f a) m) (f (a + m))

  -- how many fit: the next one, if it has room, and those after it; none where it has no room

  pub fits_next : (room n k : ℕ) → k < n → length (f k) ≤ room → chunk_end f room n k ≡ chunk_end f (room - length (f k)) n (k + 1)
  unfolding chunk_end fitting
  fits_next room n k l h =
      ap (λ (m : ℕ). k + fitting f room k m) {x = n - k} {y = suc (n - (k + 1))} (omega arith)
      ∙ ap (λ (b : Bool). k + cond b (suc (fitting f (room - length (f k)) (k + 1) (n - (k + 1)))) 0) (le-leb (length (f k)) room h)
      ∙ omega arith

  pub fits_none : (room n k : ℕ) → k < n → room < length (f k) → chunk_end f room n k ≡ k
  unfolding chunk_end fitting
  fits_none room n k l h =
      ap (λ (m : ℕ). k + fitting f room k m) {x = n - k} {y = suc (n - (k + 1))} (omega arith)
      ∙ ap (λ (b : Bool). k + cond b (suc (fitting f (room - length (f k)) (k + 1) (n - (k + 1)))) 0) (lt-leb (length (f k)) room h)
      ∙ omega arith

  pub fits_end : (room n k : ℕ) → n ≤ k → chunk_end f room n k ≡ k
  unfolding chunk_end fitting
  fits_end room n k l = ap (λ (m : ℕ). k + fitting f room k m) {x = n - k} {y = 0} (omega arith) ∙ add-zero k

  -- no more fit than there are, and those that fit have room

  fitting_most : (room a m : ℕ) → fitting f room a m ≤ m
  unfolding fitting
  fitting_most room a zero = omega arith
  fitting_most room a (suc m) = go (leb (length (f a)) room) (fitting_most (room - length (f a)) (a + 1) m)
    where
      go : (b : Bool) {k : ℕ} → k ≤ m → cond b (suc k) 0 ≤ suc m
      go true l = omega arith
      go false l = omega arith

  fitting-room : (room a m : ℕ) → length (each (from f a) (fitting f room a m)) ≤ room
  unfolding fitting each
  fitting-room room a zero = omega arith
  fitting-room room a (suc m) =
      go (leb (length (f a)) room) (fitting f (room - length (f a)) (a + 1) m) refl (fitting-room (room - length (f a)) (a + 1) m)
    where
      go : (b : Bool) (k : ℕ) → leb (length (f a)) room ≡ b → length (each (from f (a + 1)) k) ≤ room - length (f a)
          → length (each (from f a) (cond b (suc k) 0)) ≤ room
      go true k e rest =
          subst (λ (l : List ℕ). length l ≤ room) (sym (first a k))
          (rw length-append (omega (arith, leb-true (length (f a)) room e, rest)))
      go false k e rest = omega arith

  -- where chunks end and start

  pub end_after : (room n a : ℕ) → a ≤ chunk_end f room n a
  unfolding chunk_end
  end_after room n a = omega arith

  pub end_most : (room n a : ℕ) → a ≤ n → chunk_end f room n a ≤ n
  unfolding chunk_end
  end_most room n a l = omega (arith, fitting_most room a (n - a))

  module _ (room n : ℕ) where
    abbrev start : ℕ → ℕ
    start = chunk_start f room n

    next : (i : ℕ) → start (i + 1) ≡ chunk_end f room n (start i)
    unfolding chunk_start
    next i = ap start (add-one i)

    pub start_most : (i : ℕ) → chunk_start f room n i ≤ n
    unfolding chunk_start
    start_most zero = omega arith
    start_most (suc i) = end_most room n (start i) (start_most i)

    chunk_fits : (i : ℕ) → length (chunk f room n i) ≤ room
    unfolding chunk each_from chunk_end
    chunk_fits i =
        subst (λ (m : ℕ). length (each (from f (start i)) m) ≤ room)
        {x = fitting f room (start i) (n - start i)} {y = start (i + 1) - start i} (omega (arith, next i))
        (fitting-room room (start i) (n - start i))

    chunks_join : (i : ℕ) → each (chunk f room n) i ≡ each f (start i)
    unfolding each chunk chunk_start
    chunks_join zero = refl
    chunks_join (suc i) =
        ap (λ (l : List ℕ). l ++ each_from f (start i) (start (i + 1))) (chunks_join i)
        ∙ ap (λ (b : ℕ). each f (start i) ++ each_from f (start i) b) (next i)
        ∙ sym (up_to (start i) (chunk_end f room n (start i)) (end_after room n (start i)))

    -- where every text fits the buffer

    module _ (each-Fits : (k : ℕ) → k < n → length (f k) ≤ room) where
      chunk_goes_on : (i : ℕ) → start i < n → start i < start (i + 1)
      chunk_goes_on i l =
          let left = room - length (f (start i)) in
          omega (arith, next i, fits_next room n (start i) l (each-Fits (start i) l), end_after left n (start i + 1))

      -- so each of the first n chunks has a text, or all are passed
      at_least : (i : ℕ) → i ≤ n → i ≤ start i
      unfolding chunk_start
      at_least zero l = omega arith
      at_least (suc i) l = go (dec_lt (start i) n) (at_least i (omega arith))
        where
          go : Dec (start i < n) → i ≤ start i → suc i ≤ chunk_end f room n (start i)
          go (yes m) before = omega (arith, chunk_goes_on i m, next i, before)
          go (no m) before = omega (arith, end_after room n (start i))

      all_reached : start n ≡ n
      all_reached = omega (arith, at_least n (omega arith), start_most n)

      pub in_chunks : InChunks f room n
      in_chunks = record {
        fits = chunk_fits;
        so_far = chunks_join;
        goes_on = chunk_goes_on;
        reaches = all_reached;
        joined = chunks_join n ∙ ap (each f) all_reached;
      }
