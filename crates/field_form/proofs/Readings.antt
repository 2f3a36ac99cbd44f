-- What the bytes of a length say, and how the peer handles it.
use Prim.Native.Nat.{ℕ}
use native.Mathlib.Omega.{arith}
use mathlib.Core.Bool.{Bool, true, false, cond}
use mathlib.Core.List.{List, [], ◌∷◌}
use mathlib.Core.Path.{◌≡◌, refl}
use lib.Dec.{eqb}
use lib.ListN.{length}
use borrow.Author.Tests.{eq-eqb, ne_eqb}
use Rattle.header.specs.declared.Head.{Head}
use Rattle.rules.specs.declared.Fields.{Fields}
use Rattle.rules.specs.Table.{Table}
use Rattle.rules.specs.Form.{all_zero}
use Rattle.form.specs.Written.{held}
use Rattle.view.specs.View.{no_clash, table_of}
use Rattle.field_rules.specs.Message.{fetched}
use Rattle.field_rules.specs.MessageBytes.{Reading, malformed, reading, choose, rows_in, brought, rows_brought, own, read_message, read_step, handle_reading}
use Rattle.field_state.specs.Ready.{Ready}
use Rattle.field_form.specs.Handling.{HandlesReading, SendsReading}
use Rattle.field_form.proofs.Named.{too_fetch}

-- an op that is none of those listed
module _ (T : Table) (j : ℕ) (s t : List ℕ) (op n : ℕ) (rest : List (ℕ × Reading)) where
  pub skip : (L : Reading) {r : ℕ} → (op ≡ n → ⊥) → HandlesReading T j s t (choose op rest) r
      → HandlesReading T j s t (choose op ((n, L) ∷ rest)) r
  unfolding choose
  skip L d H = rw (ne_eqb op n d) H

  pub skip_sent : (L : Reading) (o u : List ℕ) {r : ℕ} → (op ≡ n → ⊥) → SendsReading T j s t (choose op rest) o u r
      → SendsReading T j s t (choose op ((n, L) ∷ rest)) o u r
  unfolding choose
  skip_sent L o u d H = rw (ne_eqb op n d) H

-- nothing of the form
module _ (h : Head) (clash : ℕ → ℕ → Bool) (j : ℕ) (s : List ℕ) (R : Ready h s) where
  pub no_form : HandlesReading (table_of h clash) j s s malformed 5
  unfolding handle_reading
  no_form = record { answers = refl; leaves = record { canon = R.canon; says = refl } }

  pub no_form_sent : (o : List ℕ) → SendsReading (table_of h clash) j s s malformed o o 5
  no_form_sent o = record { handles = no_form; sends = refl }

  pub no_op : (op : ℕ) → HandlesReading (table_of h clash) j s s (choose op []) 5
  unfolding choose
  no_op op = no_form

  pub no_op_sent : (op : ℕ) (o : List ℕ) → SendsReading (table_of h clash) j s s (choose op []) o o 5
  unfolding choose
  no_op_sent op o = no_form_sent o

  -- and bytes that have another length
  pub other_message : (m : List ℕ) → (length m ≡ 13 → ⊥) → (length m ≡ 141 → ⊥) → HandlesReading (table_of h clash) j s s (read_message m) 5
  unfolding read_message
  other_message m n d = rw (ne_eqb (length m) 13 n, ne_eqb (length m) 141 d) no_form

  pub other_step : (c o : List ℕ) → (length c ≡ 13 → ⊥) → SendsReading (table_of h clash) j s s (read_step c) o o 5
  unfolding read_step
  other_step c o n = rw (ne_eqb (length c) 13 n) (no_form_sent o)

malformed_too : (h : Head) (clash : ℕ → ℕ → Bool) (j : ℕ) (s t : List ℕ) (r : ℕ) → HandlesReading (table_of h no_clash) j s t malformed r
    → HandlesReading (table_of h clash) j s t malformed r
unfolding handle_reading
malformed_too h clash j s t r H = record { answers = H.answers; leaves = H.leaves }

-- a fetch is handled in the same way whatever clashes
fetch_too : (h : Head) (clash : ℕ → ℕ → Bool) (j : ℕ) (s t : List ℕ) (r op i k p x B : ℕ) (m : List ℕ)
    → HandlesReading (table_of h no_clash) j s t (choose op (rows_brought i k p x B m)) r
    → HandlesReading (table_of h clash) j s t (choose op (rows_brought i k p x B m)) r
unfolding choose
fetch_too h clash j s t r op i k p x B m = go (eqb op 8)
  where
    go : (b : Bool) → HandlesReading (table_of h no_clash) j s t (cond b (reading (all_zero x 0 0 B) i (fetched k p (rows_in m))) malformed) r
        → HandlesReading (table_of h clash) j s t (cond b (reading (all_zero x 0 0 B) i (fetched k p (rows_in m))) malformed) r
    go true H = too_fetch h clash j s t r i (all_zero x 0 0 B) k p (rows_in m) H
    go false H = malformed_too h clash j s t r H

module _ (m : List ℕ) (f : Fields) (e : f ≡ held m) where
  pub thirteen : (T : Table) (j : ℕ) (s t : List ℕ) {r : ℕ} → length m ≡ 13
      → HandlesReading T j s t (choose f.op (brought f.peer f.other f.period f.item f.board)) r → HandlesReading T j s t (read_message m) r
  unfolding read_message
  thirteen T j s t l H = rw (eq-eqb (length m) 13 l) (rw e at H)

  pub fetch_long : (h : Head) (clash : ℕ → ℕ → Bool) (j : ℕ) (s t : List ℕ) {r : ℕ} → length m ≡ 141
      → HandlesReading (table_of h no_clash) j s t (choose f.op (rows_brought f.peer f.other f.period f.item f.board m)) r
      → HandlesReading (table_of h clash) j s t (read_message m) r
  unfolding read_message
  fetch_long h clash j s t {r} l H =
      rw (ne_eqb (length m) 13 (λ z. omega (arith, l, z)), eq-eqb (length m) 141 l)
      (rw e at (fetch_too h clash j s t r f.op f.peer f.other f.period f.item f.board m H))

  pub step_thirteen : (T : Table) (j : ℕ) (s t o u : List ℕ) {r : ℕ} → length m ≡ 13
      → SendsReading T j s t (choose f.op (own f.peer f.other f.period f.item f.board)) o u r → SendsReading T j s t (read_step m) o u r
  unfolding read_step
  step_thirteen T j s t o u l H = rw (eq-eqb (length m) 13 l) (rw e at H)
