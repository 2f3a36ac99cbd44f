-- A chunk is filled text by text: each is written, and the first that finds no room ends the chunk.
use Prim.Native.Nat.{ℕ, suc, ◌+◌, ◌-◌, ◌^◌, ◌≤◌, ◌<◌}
use native.Mathlib.Omega.{arith}
use mathlib.Core.List.{List, [], ◌∷◌}
use mathlib.Core.Path.{◌≡◌, refl, sym, ap, ◌∙◌}
use lib.ListN.{length, take, drop, set, length-append}
use lib.Seq.{sets, sets-eq, take_at, take-set-le}
use Rattle.text.specs.Wrote.{over, Wrote}
use Rattle.text.specs.Chunks.{each_from, chunk_end, Chunked}
use Rattle.text.proofs.Writing.{none, ◌▷◌, renamed}
use Rattle.text.proofs.Chunks.{from-none, from_more, fits_next, fits_none, fits_end}

-- the texts from a on and below k are written, they fit, and where the chunk ends from here is where it ends from its start
pub record Filled (f : ℕ → List ℕ) (n a : ℕ) (was is : List ℕ) (to k : ℕ) : Type 0 where
  pub after : a ≤ k
  pub most : k ≤ n
  pub wrote : Wrote was 0 (each_from f a k) is to
  pub size : to ≡ length (each_from f a k)
  pub fits : to ≤ length was
  pub ends : chunk_end f (length was) n a ≡ chunk_end f (length was - to) n k

module _ {f : ℕ → List ℕ} {n a : ℕ} {was : List ℕ} where
  pub filled_none : a ≤ n → Filled f n a was was 0 a
  filled_none l = record {
    after = omega arith;
    most = l;
    wrote = renamed (sym (from-none f a)) none;
    size = ap length (sym (from-none f a));
    fits = omega arith;
    ends = ap (λ (room : ℕ). chunk_end f room n a) {x = length was} {y = length was - 0} (omega arith);
  }

  module _ {is : List ℕ} {to k : ℕ} (F : Filled f n a was is to k) where
    -- the next place, where the text is not longer than there are places
    next_place : {now : List ℕ} {next : ℕ} → to + length (f k) < 2 ^ 63 → Wrote is to (f k) now next → next ≡ to + length (f k)
    next_place small w = omega (arith, w.place)

    -- the text has room
    pub filled_more : {now : List ℕ} {next : ℕ} → k < n → to + length (f k) < 2 ^ 63 → Wrote is to (f k) now next
        → next ≤ length now → Filled f n a was now next (k + 1)
    filled_more {now} {next} l small w room =
        let there = next_place small w in
        let enough : next ≤ length was = omega (arith, room, w.long, F.wrote.long) in
        record {
          after = omega (arith, F.after);
          most = omega arith;
          wrote = renamed (sym (from_more f a k F.after)) (F.wrote ▷ w);
          size = there ∙ omega (arith, F.size, length-append (each_from f a k) (f k)) ∙ ap length (sym (from_more f a k F.after));
          fits = enough;
          ends = F.ends ∙ fits_next f (length was - to) n k l (omega (arith, there, enough))
              ∙ ap (λ (left : ℕ). chunk_end f left n (k + 1)) {x = length was - to - length (f k)} {y = length was - next} (omega (arith, there));
        }

-- a text at the start of the bytes, and what is written after it

take-over : (was text : List ℕ) → length text ≤ length was → take (length text) (over was 0 text) ≡ text
unfolding over
take-over was text l =
    ap (take (length text)) (sets-eq text was 0 (omega arith)) ∙ take_at text (drop (0 + length text) was) (length text) refl

take_before : (n : ℕ) (l v : List ℕ) (i : ℕ) → n ≤ i → take n (sets l i v) ≡ take n l
take_before n l [] i h = refl
take_before n l (b ∷ v) i h = take_before n (set l i b) v (suc i) (omega arith) ∙ take-set-le n l i b h

module _ {f : ℕ → List ℕ} {n a : ℕ} {was is : List ℕ} {to k : ℕ} (small : length was < 2 ^ 64) (F : Filled f n a was is to k) where
  -- bytes that begin as those that were filled, where the chunk ends here
  ended : {now : List ℕ} → k ≡ chunk_end f (length was) n a → length now ≡ length was → take to now ≡ take to is
      → Chunked f (length was) n a now to k
  ended {now} end long same =
      let text = each_from f a k in
      let fits : length text ≤ length was = omega (arith, F.size, F.fits) in
      record {
        ends = end;
        fits = omega (arith, F.fits, long);
        text = same ∙ ap (λ (i : ℕ). take i is) F.size ∙ ap (take (length text)) (F.wrote.bytes small)
            ∙ take-over was text fits ∙ ap (each_from f a) end;
      }

  -- the text finds no room: what was written of it stands after the chunk
  pub filled_stop : {now : List ℕ} {next : ℕ} → k < n → to + length (f k) < 2 ^ 63 → Wrote is to (f k) now next
      → length now < next → Chunked f (length was) n a now to k
  unfolding over
  filled_stop {now} {next} l short w past =
      let there = next_place F short w in
      let long = w.long ∙ F.wrote.long in
      let none-fits = fits_none f (length was - to) n k l (omega (arith, there, past, long)) in
      ended (sym (F.ends ∙ none-fits)) long
      (ap (take to) (w.bytes (omega (arith, small, F.wrote.long))) ∙ take_before to is (f k) to (omega arith))

  -- no text is left
  pub filled_all : n ≤ k → Chunked f (length was) n a is to k
  filled_all l = ended (sym (F.ends ∙ fits_end f (length was - to) n k l)) F.wrote.long refl
