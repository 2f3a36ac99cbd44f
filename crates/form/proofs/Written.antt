-- Bytes are read as a step exactly if they are the thirteen bytes that it is written as.
use Prim.Native.Nat.{ℕ, zero, suc, ◌+◌, ◌-◌, ◌*◌, ◌/◌, ◌^◌, ◌<◌, ◌≤◌}
use native.Mathlib.Nat.{div-div-eq-div-mul, pow-suc, div-one}
use native.Mathlib.Omega.{arith}
use mathlib.Core.Bool.{Bool, true, false}
use mathlib.Core.List.{List, [], ◌∷◌}
use mathlib.Core.Logic.{◌⊎◌, inl, inr}
use mathlib.Core.Path.{◌≡◌, refl, sym, ap, ◌∙◌}
use lib.Dec.{eqb}
use lib.ListN.{length, drop}
use borrow.Author.Tests.{eqb-true}
use Rattle.base.specs.Bytes.{byte_at, number_at}
use Rattle.base.specs.Tab.{tab}
use Rattle.base.proofs.Truth.{either, false_true}
use Rattle.base.proofs.Bytes.{number_fits, number_byte}
use Rattle.base.proofs.Tab.{tab-get_or}
use Rattle.rules.specs.declared.Step.{Step}
use Rattle.rules.specs.declared.Step.TheVariants.{Post, Hand, Sign, Take, Share, Receipt, Close, Fetch, SendHash}
use Rattle.rules.specs.declared.Step.TheVariants.{Hear, Back, Publish, FalseSignature, FalseShare, FalseHash, FalseBacking, Down, Up, ClearHashes}
use Rattle.rules.specs.Form.{Call}
use Rattle.std.specs.Prelude.{Some, None}
use Rattle.rules.specs.Form.{all_zero, formed, select, ops, later_ops, read}
use Rattle.rules.specs.declared.Fields.{Fields}
use Rattle.rules.specs.Fields.{of, fields}
use Rattle.form.specs.Written.{board_byte, bytes_of, held, written, BothWays}

-- a step that is written is read

-- what stands above byte i of a board, and that byte
more : (B i v : ℕ) → v ≡ B / 256 ^ suc i → v * 256 + board_byte B i ≡ B / 256 ^ i
more B i v e = omega (arith, div-div-eq-div-mul B (256 ^ i) 256, ap (λ (n : ℕ). B / n) (pow-suc 256 i))

-- a board is its eight bytes
pub board-read : (op j k p x B : ℕ) → B < 2 ^ 64 → number_at (bytes_of (of op j k p x B)) 5 8 ≡ B
unfolding number_at
board-read op j k p x B h =
    more B 0 _ (more B 1 _ (more B 2 _ (more B 3 _ (more B 4 _ (more B 5 _ (more B 6 _ (more B 7 0 (omega arith)))))))) ∙ div-one B

pub read-written : (st : Step) → (fields st).board < 2 ^ 64 → read (written st) ≡ Some st
unfolding number_at all_zero formed select ops later_ops read
read-written (Post x) h = refl
read-written (Hand j x) h = refl
read-written (Sign j x) h = refl
read-written (Take j k p x) h = refl
read-written (Share j x) h = refl
read-written (Receipt p x) h = refl
read-written (Close j) h = refl
read-written (Fetch j k p) h = refl
read-written (SendHash j p) h = refl
read-written (Hear j e) h = refl
read-written (Back j) h = refl
read-written (Publish e) h = refl
read-written (FalseSignature j p x) h = refl
read-written (FalseShare j p x) h = refl
read-written (FalseHash j p B) h = ap (λ (C : ℕ). Some (FalseHash j p C)) (board-read 0 0 0 0 0 B h)
read-written (FalseBacking j p B) h = ap (λ (C : ℕ). Some (FalseBacking j p C)) (board-read 0 0 0 0 0 B h)
read-written (Down j) h = refl
read-written (Up j) h = refl
read-written (ClearHashes p) h = refl

-- the thirteen bytes of fields that are bytes, and of any board, are bytes

abbrev AllBytes : List ℕ → Type 0
AllBytes [] = Unit {0}
AllBytes (b ∷ l) = (b < 256) × AllBytes l

all-bytes : (l : List ℕ) → AllBytes l → (i : ℕ) → byte_at l i < 256
all-bytes [] h i = omega arith
all-bytes (b ∷ l) h zero = h.0
all-bytes (b ∷ l) h (suc i) = all-bytes l h.1 i

pub written-bytes : (st : Step) → let f = fields st in f.op < 256 → f.peer < 256 → f.other < 256 → f.period < 256 → f.item < 256
    → (i : ℕ) → byte_at (written st) i < 256
written-bytes st op peer other period item = all-bytes (written st) (op, (peer, (other, (period, (item, board)))))
  where
    low : (i : ℕ) → board_byte (fields st).board i < 256
    low i = omega arith

    board : AllBytes (drop 5 (written st))
    board = (low 7, (low 6, (low 5, (low 4, (low 3, (low 2, (low 1, (low 0, tt))))))))

-- bytes that are read are those of the step

abbrev is_step : Call → Bool
is_step (Some st) = true
is_step None = false

no_step_lem : {st : Step} {A : Type 0} → None ≡ Some st → A
no_step_lem e = false_true (ap is_step e)

-- in a list of readings the steps beside op n have the fields f n
Have : (ℕ → Fields) → List (ℕ × Call) → Type 0
Have f [] = Unit
Have f (r ∷ rest) = ((st : Step) → r.1 ≡ Some st → fields st ≡ f r.0) × Have f rest

infixr 20 ◌also◌
◌also◌ : {P Q : Type 0} → P → Q → P × Q
first also later = (first, later)

-- a step whose other fields are 0 has these fields
has : (a b c d : ℕ) (one : Step) (g : Fields) → (0 ≡ a → 0 ≡ b → 0 ≡ c → 0 ≡ d → fields one ≡ g)
    → (st : Step) → formed (all_zero a b c d) one ≡ Some st → fields st ≡ g
unfolding formed all_zero
has a b c d one g is st e = go (either (eqb (a + b + c + d) 0))
  where
    go : (eqb (a + b + c + d) 0 ≡ true) ⊎ (eqb (a + b + c + d) 0 ≡ false) → fields st ≡ g
    go (inl t) =
        let sum = eqb-true (a + b + c + d) 0 t in
        let same : one ≡ st = (let f = rw t at e in cc) in
        ap fields (sym same) ∙ is (omega (arith, sum)) (omega (arith, sum)) (omega (arith, sum)) (omega (arith, sum))
    go (inr t) = no_step_lem (rw t at e)

all_have : (j k p x B : ℕ) → Have (λ op. of op j k p x B) (ops j k p x B)
unfolding Have ops later_ops
all_have j k p x B =
    has j k p B (Post x) _ (λ a b c d. λ i. of 1 (a i) (b i) (c i) x (d i))
    also has k p 0 B (Hand j x) _ (λ a b c d. λ i. of 2 j (a i) (b i) x (d i))
    also has k p 0 B (Sign j x) _ (λ a b c d. λ i. of 3 j (a i) (b i) x (d i))
    also has 0 0 0 B (Take j k p x) _ (λ a b c d. λ i. of 4 j k p x (d i))
    also has k p 0 B (Share j x) _ (λ a b c d. λ i. of 5 j (a i) (b i) x (d i))
    also has j k 0 B (Receipt p x) _ (λ a b c d. λ i. of 6 (a i) (b i) p x (d i))
    also has k p x B (Close j) _ (λ a b c d. λ i. of 7 j (a i) (b i) (c i) (d i))
    also has x 0 0 B (Fetch j k p) _ (λ a b c d. λ i. of 8 j k p (a i) (d i))
    also has k x 0 B (SendHash j p) _ (λ a b c d. λ i. of 9 j (a i) p (b i) (d i))
    also has k p 0 B (Hear j x) _ (λ a b c d. λ i. of 10 j (a i) (b i) x (d i))
    also has k p x B (Back j) _ (λ a b c d. λ i. of 11 j (a i) (b i) (c i) (d i))
    also has j k p B (Publish x) _ (λ a b c d. λ i. of 12 (a i) (b i) (c i) x (d i))
    also has k 0 0 B (FalseSignature j p x) _ (λ a b c d. λ i. of 13 j (a i) p x (d i))
    also has k 0 0 B (FalseShare j p x) _ (λ a b c d. λ i. of 14 j (a i) p x (d i))
    also has k x 0 0 (FalseHash j p B) _ (λ a b c d. λ i. of 15 j (a i) p (b i) B)
    also has k x 0 0 (FalseBacking j p B) _ (λ a b c d. λ i. of 16 j (a i) p (b i) B)
    also has k p x B (Down j) _ (λ a b c d. λ i. of 17 j (a i) (b i) (c i) (d i))
    also has k p x B (Up j) _ (λ a b c d. λ i. of 18 j (a i) (b i) (c i) (d i))
    also has j k x B (ClearHashes p) _ (λ a b c d. λ i. of 19 (a i) (b i) p (c i) (d i))
    also tt

-- the step that op finds has the fields f op
found : (f : ℕ → Fields) (op : ℕ) (l : List (ℕ × Call)) → Have f l → (st : Step) → select op l ≡ Some st → fields st ≡ f op
unfolding Have select
found f op [] H st e = no_step_lem e
found f op (r ∷ rest) H st e = go (found f op rest H.1 st) (either (eqb op r.0))
  where
    go : (select op rest ≡ Some st → fields st ≡ f op) → (eqb op r.0 ≡ true) ⊎ (eqb op r.0 ≡ false) → fields st ≡ f op
    go later (inl t) = H.0 st (rw t at e) ∙ ap f (sym (eqb-true op r.0 t))
    go later (inr t) = later (rw t at e)

module _ (s : List ℕ) where
  -- a step that is read has these fields
  pub holds : (st : Step) → read s ≡ Some st → (length s ≡ 13) × (fields st ≡ held s)
  unfolding read
  holds st e = go (either (eqb (length s) 13))
    where
      go : (eqb (length s) 13 ≡ true) ⊎ (eqb (length s) 13 ≡ false) → (length s ≡ 13) × (fields st ≡ held s)
      go (inl t) =
          let f = held s in
          let steps = all_have f.peer f.other f.period f.item f.board in
          (eqb-true (length s) 13 t, found _ f.op _ steps st (rw t at e))
      go (inr t) = no_step_lem (rw t at e)

module _ (s : List ℕ) (small : (i : ℕ) → byte_at s i < 256) where
  -- byte i of the board, counted from its low end
  low : (i : ℕ) → i ≤ 7 → board_byte (number_at s 5 8) i ≡ byte_at s (5 + (7 - i))
  low i l = number_byte s small 5 7 i l

  thirteen_bytes : length s ≡ 13 → s ≡ bytes_of (held s)
  unfolding tab
  thirteen_bytes e = sym (tab-get_or s 0) ∙ ap (λ (n : ℕ). tab n (byte_at s)) e ∙ sym (λ i.
      byte_at s 0 ∷ byte_at s 1 ∷ byte_at s 2 ∷ byte_at s 3 ∷ byte_at s 4
      ∷ low 7 (omega arith) i ∷ low 6 (omega arith) i ∷ low 5 (omega arith) i ∷ low 4 (omega arith) i
      ∷ low 3 (omega arith) i ∷ low 2 (omega arith) i ∷ low 1 (omega arith) i ∷ low 0 (omega arith) i ∷ [])

  -- for any bytes, and any step
  pub both_ways : (st : Step) → BothWays s st
  both_ways st =
      record {
        reads = λ is fits. ap read is ∙ read-written st fits;
        writes = λ e.
            let h = holds s st e in
            (thirteen_bytes h.0 ∙ ap bytes_of (sym h.1), omega (arith, ap (λ (f : Fields). f.board) h.1, number_fits s small 5 8));
      }
