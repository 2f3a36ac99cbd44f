-- What peer j sends, delivered: the outside with it, and nothing else.
use Rattle.std.specs.Prelude.{ℕ, Bool, true, false, List, ◌≡◌, eqb}
use Rattle.std.proofs.Math.Option.{Option, none, some}
use Rattle.base.specs.Sets.{add3}
use Rattle.rules.specs.declared.Entry.{Entry}
use Rattle.rules.specs.declared.Entry.TheVariants.{Hash, Backing}
use Rattle.rules.specs.declared.Step.{Step}
use Rattle.rules.specs.declared.Step.TheVariants.{Post, Hand, Sign, Take, Share, Receipt, Close, Fetch, SendHash, Hear, Back, Publish, FalseSignature, FalseShare, FalseHash, FalseBacking, Down, Up, ClearHashes}
use Rattle.rules.specs.Form.{Call}
use Rattle.std.specs.Prelude.{Some, None}
use Rattle.rules.specs.Bag.{is_in, enter}
use Rattle.rules.specs.State.{State}
use Rattle.field_rules.specs.Message.{Sent, signature, share, hash, backing}

-- what is outside
pub record Outside : Type 0 where
  pub posted : ℕ → Bool
  pub signed : ℕ → ℕ → ℕ → Bool
  pub shared : ℕ → ℕ → ℕ → Bool
  pub receipted : ℕ → ℕ → Bool
  pub bag : List Entry

abbrev pub outside : State → Outside
outside s = record
    { posted = s.posted; signed = s.signed; shared = s.shared; receipted = s.receipted; bag = s.bag }

-- the outside with what peer j sends
unfoldable pub delivered : ℕ → Option Sent → Outside → Outside
delivered j none o = o
delivered j (some (signature p x)) o = record
    { posted = o.posted; signed = add3 j p x o.signed; shared = o.shared; receipted = o.receipted; bag = o.bag }
delivered j (some (share p x)) o = record
    { posted = o.posted; signed = o.signed; shared = add3 j p x o.shared; receipted = o.receipted; bag = o.bag }
delivered j (some (hash p B)) o = record {
  posted = o.posted;
  signed = o.signed;
  shared = o.shared;
  receipted = o.receipted;
  bag = enter (Hash j p B)
      o.bag;
}
delivered j (some (backing p B)) o = record {
  posted = o.posted;
  signed = o.signed;
  shared = o.shared;
  receipted = o.receipted;
  bag = enter (Backing j p B)
      o.bag;
}

-- the step is of peer j: its peer field has j
unfoldable pub is_of : ℕ → Step → Bool
is_of j (Hand i x) = eqb i j
is_of j (Sign i x) = eqb i j
is_of j (Take i k p x) = eqb i j
is_of j (Share i x) = eqb i j
is_of j (Close i) = eqb i j
is_of j (Fetch i k p) = eqb i j
is_of j (SendHash i p) = eqb i j
is_of j (Hear i e) = eqb i j
is_of j (Back i) = eqb i j
is_of j (FalseSignature i p x) = eqb i j
is_of j (FalseShare i p x) = eqb i j
is_of j (FalseHash i p B) = eqb i j
is_of j (FalseBacking i p B) = eqb i j
is_of j (Down i) = eqb i j
is_of j (Up i) = eqb i j
is_of j (ClearHashes p) = false
is_of j (Post x) = false
is_of j (Receipt p x) = false
is_of j (Publish e) = false

unfoldable pub is_call_of : ℕ → Call → Bool
is_call_of j (Some st) = is_of j st
is_call_of j None = false

-- in peer j's name the one outside has what the other has, but that hashes may be gone: o is the outside after a step,
-- w the one before it with what j sends
pub record InItsName (j : ℕ) (o w : Outside) : Type 0 where
  pub signed : o.signed j ≡ w.signed j
  pub shared : o.shared j ≡ w.shared j
  pub backings : (p B : ℕ) → is_in (Backing j p B) o.bag ≡ is_in (Backing j p B) w.bag
  -- a clear removes hashes
  pub hashes : (p B : ℕ) → is_in (Hash j p B) o.bag ≡ true → is_in (Hash j p B) w.bag ≡ true
