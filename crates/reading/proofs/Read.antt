-- Laws of texts read: digits are neither blanks nor ends of lines, and lines are counted one after the other.
use Prim.Native.Nat.{ℕ, zero, suc, ◌+◌, ◌/◌, ◌%◌, ◌≤◌, ◌<◌}
use native.Mathlib.Numerals.{add-one}
use native.Mathlib.Omega.{arith}
use mathlib.Core.Bool.{Bool, true, false, cond}
use mathlib.Core.List.{List, [], ◌∷◌, ◌++◌, append-nil, append_assoc}
use mathlib.Core.Path.{◌≡◌, refl, sym, ap, ◌∙◌}
use lib.Dec.{eqb, ltb}
use borrow.Author.Tests.{ne_eqb, ltb-true}
use Rattle.text.specs.Wrote.{each}
use Rattle.text.specs.Decimal.{spelled, decimal, field}
use Rattle.reading.specs.Read.{lines_from, lines_of, times_in, begins, tally}

-- how often a byte stands in a text

pub times_append : (b : ℕ) (u v : List ℕ) → times_in b (u ++ v) ≡ times_in b u + times_in b v
unfolding times_in
times_append b [] v = omega arith
times_append b (a ∷ u) v = omega (arith, times_append b u v)

-- a byte that is no digit stands in no number
module _ (b : ℕ) (low : b < 48) where
  no_digit : (d : ℕ) → times_in b ((48 + d) ∷ []) ≡ 0
  unfolding times_in
  no_digit d = rw (ne_eqb (48 + d) b (λ e. omega (arith, e, low)))

  spelled_none : (k n : ℕ) → times_in b (spelled k n) ≡ 0
  unfolding spelled times_in
  spelled_none zero n = refl
  spelled_none (suc k) n = go (ltb n 10) (spelled_none k (n / 10))
    where
      go : (small : Bool) → times_in b (spelled k (n / 10)) ≡ 0
          → times_in b (cond small ((48 + n) ∷ []) (spelled k (n / 10) ++ ((48 + n % 10) ∷ []))) ≡ 0
      go true rest = no_digit n
      go false rest = times_append b (spelled k (n / 10)) ((48 + n % 10) ∷ []) ∙ omega (arith, rest, no_digit (n % 10))

  pub decimal-none : (n : ℕ) → times_in b (decimal n) ≡ 0
  unfolding decimal
  decimal-none n = spelled_none (n + 1) n

-- no end of a line stands in a text
pub record Within (text : List ℕ) : Type 0 where
  pub none : times_in 10 text ≡ 0

infixl 40 ◌&◌
pub ◌&◌ : {u v : List ℕ} → Within u → Within v → Within (u ++ v)
◌&◌ {u} {v} x y = record { none = times_append 10 u v ∙ omega (arith, x.none, y.none) }

pub word_within : (w : List ℕ) → times_in 10 w ≡ 0 → Within w
word_within w e = record { none = e }

pub decimal_within : (n : ℕ) → Within (decimal n)
decimal_within n = record { none = decimal-none 10 (omega arith) n }

-- a field has one blank and no end of a line

pub field_blank : (n : ℕ) → times_in 32 (field n) ≡ 1
unfolding field times_in
field_blank n = omega (arith, decimal-none 32 (omega arith) n)

pub field_within : (n : ℕ) → Within (field n)
unfolding field times_in
field_within n = record { none = omega (arith, decimal-none 10 (omega arith) n) }

-- a number begins with no word of letters
module _ (b : ℕ) (high : 58 ≤ b) (word : List ℕ) where
  no_letter : (d : ℕ) (more : List ℕ) → d < 10 → begins (b ∷ word) ((48 + d) ∷ more) ≡ false
  unfolding begins
  no_letter d more l = rw (ne_eqb (48 + d) b (λ e. omega (arith, e, high, l)))

  digits_first : (k n : ℕ) (more : List ℕ) → begins (b ∷ word) (spelled (suc k) n ++ more) ≡ false
  unfolding spelled
  digits_first zero n more = pick (ltb n 10) refl
    where
      pick : (small : Bool) → ltb n 10 ≡ small
          → begins (b ∷ word) (cond small ((48 + n) ∷ []) ((48 + n % 10) ∷ []) ++ more) ≡ false
      pick true e = no_letter n more (ltb-true n 10 e)
      pick false e = no_letter (n % 10) more (omega arith)
  digits_first (suc k) n more = pick (ltb n 10) refl (digits_first k (n / 10) ((48 + n % 10) ∷ more))
    where
      pick : (small : Bool) → ltb n 10 ≡ small → begins (b ∷ word) (spelled (suc k) (n / 10) ++ ((48 + n % 10) ∷ more)) ≡ false
          → begins (b ∷ word) (cond small ((48 + n) ∷ []) (spelled (suc k) (n / 10) ++ ((48 + n % 10) ∷ [])) ++ more) ≡ false
      pick true e rest = no_letter n more (ltb-true n 10 e)
      pick false e rest = rw (append_assoc (spelled (suc k) (n / 10)) ((48 + n % 10) ∷ []) more) rest

  pub decimal-first : (n : ℕ) (more : List ℕ) → begins (b ∷ word) (decimal n ++ more) ≡ false
  unfolding decimal
  decimal-first n more = rw (add-one n) (digits_first n n more)

-- lines

until : (line w rest : List ℕ) → times_in 10 w ≡ 0 → lines_from line (w ++ rest) ≡ lines_from (line ++ w) rest
unfolding lines_from times_in
until line [] rest e = rw (append-nil line)
until line (b ∷ w) rest e = pick (eqb b 10) e (until (line ++ (b ∷ [])) w rest)
  where
    pick : (ends : Bool) → cond ends 1 0 + times_in 10 w ≡ 0
        → (times_in 10 w ≡ 0 → lines_from (line ++ (b ∷ [])) (w ++ rest) ≡ lines_from (line ++ (b ∷ []) ++ w) rest)
        → cond ends (line ∷ lines_from [] (w ++ rest)) (lines_from (line ++ (b ∷ [])) (w ++ rest)) ≡ lines_from (line ++ (b ∷ w)) rest
    pick true q more = absurd (omega (arith, q))
    pick false q more = more (omega (arith, q)) ∙ ap (λ (l : List ℕ). lines_from l rest) (append_assoc line (b ∷ []) w)

-- a line, and what follows it
pub line_first : (w rest : List ℕ) → Within w → lines_of (w ++ (10 ∷ []) ++ rest) ≡ w ∷ lines_of rest
unfolding lines_from
line_first w rest e = rw (append_assoc w (10 ∷ []) rest) (until [] w (10 ∷ rest) e.none)

-- a line alone
pub line_only : (w : List ℕ) → Within w → lines_of (w ++ (10 ∷ [])) ≡ w ∷ []
unfolding lines_from
line_only w e = until [] w (10 ∷ []) e.none

-- a text that ends where a line ends: whatever follows it, its lines stand first, and then those of what follows
pub record Closed (text : List ℕ) : Type 0 where
  pub apart : (rest : List ℕ) → lines_of (text ++ rest) ≡ lines_of text ++ lines_of rest

pub closed_none : Closed []
unfolding lines_from
closed_none = record { apart = λ rest. refl }

pub closed_line : {w : List ℕ} → Within w → Closed (w ++ (10 ∷ []))
closed_line {w} e = record { apart = λ rest. line_first w rest e ∙ ap (λ (l : List (List ℕ)). l ++ lines_of rest) (sym (line_only w e)) }

infixl 40 ◌then◌
pub ◌then◌ : {t u : List ℕ} → Closed t → Closed u → Closed (t ++ u)
◌then◌ {t} {u} x y = record {
  apart = λ rest.
      ap lines_of (append_assoc t u rest) ∙ x.apart (u ++ rest) ∙ ap (λ (l : List (List ℕ)). lines_of t ++ l) (y.apart rest)
      ∙ sym (append_assoc (lines_of t) (lines_of u) (lines_of rest)) ∙ ap (λ (l : List (List ℕ)). l ++ lines_of rest) (sym (x.apart u));
}

pub closed_if : (b : Bool) {t : List ℕ} → Closed t → Closed (cond b t [])
closed_if true x = x
closed_if false x = closed_none

pub closed_each : (f : ℕ → List ℕ) (n : ℕ) → ((k : ℕ) → Closed (f k)) → Closed (each f n)
unfolding each
closed_each f zero h = closed_none
closed_each f (suc n) h = closed_each f n h then h n

-- whatever follows it, a text adds so much to what is counted over the lines that begin with a word
pub record Adds (word : List ℕ) (v : List ℕ → ℕ) (text : List ℕ) (k : ℕ) : Type 0 where
  pub over : (rest : List ℕ) → tally word v (lines_of (text ++ rest)) ≡ k + tally word v (lines_of rest)

module _ {word : List ℕ} {v : List ℕ → ℕ} where
  pub adds_none : Adds word v [] 0
  adds_none = record { over = λ rest. omega arith }

  infixl 40 ◌▹◌
  pub ◌▹◌ : {t u : List ℕ} {j k : ℕ} → Adds word v t j → Adds word v u k → Adds word v (t ++ u) (j + k)
  ◌▹◌ {t} {u} {j} {k} x y = record {
    over = λ rest. ap (λ (w : List ℕ). tally word v (lines_of w)) (append_assoc t u rest) ∙ x.over (u ++ rest)
        ∙ omega (arith, y.over rest);
  }

  -- a line that begins with the word, and one that does not

  pub adds_line : {w : List ℕ} → Within w → begins word w ≡ true → Adds word v (w ++ (10 ∷ [])) (v w)
  unfolding tally
  adds_line {w} e b = record { over = λ rest. ap (tally word v) (line_first w rest e) ∙ rw b }

  pub other_line : {w : List ℕ} → Within w → begins word w ≡ false → Adds word v (w ++ (10 ∷ [])) 0
  unfolding tally
  other_line {w} e b = record { over = λ rest. ap (tally word v) (line_first w rest e) ∙ rw b }

  pub adds-all : {t : List ℕ} {k : ℕ} → Adds word v t k → tally word v (lines_of t) ≡ k
  unfolding tally lines_from
  adds-all {t} {k} x = ap (λ (w : List ℕ). tally word v (lines_of w)) (sym (append-nil t)) ∙ x.over [] ∙ omega arith
