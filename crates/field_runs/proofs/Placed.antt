-- What the rehearsal passes has its place in a message's bytes, where the table's numbers are those of document 01.
use Prim.Native.Nat.{ℕ, ◌^◌, ◌≤◌, ◌<◌}
use native.Mathlib.Nat.{pow-le-pow_right}
use native.Mathlib.Omega.{arith}
use mathlib.Core.Bool.{Bool, true, ◌&&◌}
use mathlib.Core.Option.{some}
use mathlib.Core.Path.{◌≡◌, subst}
use lib.Dec.{eqb}
use Rattle.base.proofs.Truth.{and_r, eqb_self}
use Rattle.rules.specs.declared.Entry.TheVariants.{Hash}
use Rattle.rules.specs.declared.Step.{Step}
use Rattle.rules.specs.declared.Step.TheVariants.{Post, Hand, Sign, Take, Share, Receipt, Close, Fetch, SendHash, Hear, Back, Publish, FalseSignature, FalseShare, FalseHash, FalseBacking, Down, Up, ClearHashes}
use Rattle.rules.specs.Form.{Call}
use Rattle.std.specs.Prelude.{Some, None}
use Rattle.rules.specs.Table.{Table}
use Rattle.rules.specs.Bag.{entry_at, is_hash, signer_of, period_of, board_of}
use Rattle.rules.specs.State.{State}
use Rattle.rules.specs.Valid.{Valid}
use Rattle.rules.proofs.Bag.{hash_in_lem}
use Rattle.field_rules.specs.Box.{Box}
use Rattle.field_rules.specs.Message.{Message, handed, taken, fetched, told, signs, shares, closes, hashes, backs, falls, rises, row_items, row_peers}
use Rattle.field_rules.specs.Rules.{handle}
use Rattle.field_runs.specs.Passed.{when, passed, passed_call}
use Rattle.field_rules.specs.BoxIn.{InPlace}
use Rattle.field_rules.specs.MessageBytes.{to, message_bytes, read_as, InBytes, handle_reading}
use Rattle.field_runs.proofs.Passing.{none_some, when_some}
use Rattle.field_rules.proofs.MessageBytes.{reads_back}

abbrev Placed : Message → Type 0
Placed m = InPlace m × InBytes m

module _ (T : Table) (few : (T.items ≤ row_items) × (T.n ≤ row_peers)) (j : ℕ) where
  placed : (t : Bool) (m n : Message) → when t m ≡ some n → (t ≡ true → Placed m) → Placed n
  placed t m n e f = let w = when_some t m n e in subst (λ (z : Message). Placed z) w.1 (f w.0)

  board_fits : (B : ℕ) → B < 2 ^ T.items → B < 18446744073709551616
  board_fits B l = let most : 2 ^ T.items ≤ 2 ^ 64 = pow-le-pow_right {n = 2} (omega arith) few.0 in omega (arith, l, most)

  passed_placed : (s : State) → Valid T s → (st : Step) (m : Message) → passed T j s st ≡ some m → Placed m
  unfolding passed
  passed_placed s G (Fetch i k p) m e =
      placed _ (fetched k p (s.db k p)) m e
      (λ t. (
        λ x l h. let known = G.sets.knows k p x l
            h in (omega (arith, few.0, known.0.1.1), (known.1.0, omega (arith, few.1, known.1.1))),
        tt,
      ))
  passed_placed s G (Hear i a) m e =
      let h = entry_at s.bag a in
      placed (eqb i j && is_hash h) (told (signer_of h) (period_of h) (board_of h)) m e
      (λ t. (
        tt,
        board_fits (board_of h)
            (G.bag.entries (Hash (signer_of h) (period_of h) (board_of h)) (hash_in_lem s.bag a (and_r (eqb i j) _ t))).1.1,
      ))
  passed_placed s G (Hand i x) m e = placed _ (handed x) m e (λ t. (tt, tt))
  passed_placed s G (Sign i x) m e = placed _ (signs x) m e (λ t. (tt, tt))
  passed_placed s G (Take i k p x) m e = placed _ (taken k p x) m e (λ t. (tt, tt))
  passed_placed s G (Share i x) m e = placed _ (shares x) m e (λ t. (tt, tt))
  passed_placed s G (Close i) m e = placed _ closes m e (λ t. (tt, tt))
  passed_placed s G (SendHash i p) m e = placed _ (hashes p) m e (λ t. (tt, tt))
  passed_placed s G (Back i) m e = placed _ backs m e (λ t. (tt, tt))
  passed_placed s G (Down i) m e = placed _ falls m e (λ t. (tt, tt))
  passed_placed s G (Up i) m e = placed _ rises m e (λ t. (tt, tt))
  passed_placed s G (Post x) m e = absurd (none_some m e)
  passed_placed s G (Receipt p x) m e = absurd (none_some m e)
  passed_placed s G (Publish a) m e = absurd (none_some m e)
  passed_placed s G (FalseSignature i p x) m e = absurd (none_some m e)
  passed_placed s G (FalseShare i p x) m e = absurd (none_some m e)
  passed_placed s G (FalseHash i p B) m e = absurd (none_some m e)
  passed_placed s G (FalseBacking i p B) m e = absurd (none_some m e)
  passed_placed s G (ClearHashes p) m e = absurd (none_some m e)

  pub call-placed : (s : State) → Valid T s → (c : Call) (m : Message) → passed_call T j s c ≡ some m → InPlace m × InBytes m
  unfolding passed_call
  call-placed s G (Some st) m e = passed_placed s G st m e
  call-placed s G None m e = absurd (none_some m e)

  -- the bytes of what a call passes read as what it passes
  pub passed_reads : (s : State) → Valid T s → (c : Call) (m : Message) → passed_call T j s c ≡ some m → read_as m (message_bytes j m) ≡ to j m
  passed_reads s G c m e = let at = call-placed s G c m e in reads_back j m at.0 at.1

  -- so the box handles them as it handles the message
  pub passed_handled : (b : Box) (s : State) → Valid T s → (c : Call) (m : Message) → passed_call T j s c ≡ some m
      → handle_reading T j b (read_as m (message_bytes j m)) ≡ handle T j b m
  unfolding handle_reading
  passed_handled b s G c m e = rw (passed_reads s G c m e, eqb_self j)
