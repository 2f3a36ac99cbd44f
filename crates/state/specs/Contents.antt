-- What the bytes of a state say, when they are settled by it, and how it changes.
use Rattle.std.specs.Prelude.{ℕ, ◌+◌, ◌<◌, ◌≤◌, Bool, true, false, ◌&&◌, ◌||◌, cond, List, [], ◌∷◌, ◌++◌, ◌≡◌, length}
use Rattle.base.specs.Bytes.{byte_at}
use Rattle.bits.specs.Row.{bit_at, Bytes}
use Rattle.bits.specs.Number.{num}
use Rattle.rules.specs.declared.Entry.{Entry}
use Rattle.state.specs.declared.Fact.{Fact}
use Rattle.state.specs.declared.Number.{Number}
use Rattle.state.specs.declared.Number.TheVariants.{CurrentOf, ToBackOf}
use Rattle.base.specs.Tab.{tab}
use Rattle.state.specs.Layout.{entries, count_at, entry_start, size, signer_in, period_in, board_in, count_bytes, item_bytes}
use Rattle.state.specs.Facts.{same_fact, in_range, is_peer}
use Rattle.state.specs.Places.{place}
use Rattle.state.specs.Numbers.{same_number, peer_of, slot}
use Rattle.rules.specs.Bag.{kind_of, signer_of, is_in, entry_at as nth}
use Rattle.state.specs.Entries.{entry_of, EntryFits}

-- what a state holds: facts, the peers' numbers, and the bag in its order
pub record Contents : Type 0 where
  pub has : Fact → Bool
  pub number : Number → ℕ
  pub bag : List Entry

-- how many entries the bag has
abbrev pub count : List ℕ → ℕ
count s = num count_bytes s count_at

-- entry e
unfoldable pub entry_at : List ℕ → ℕ → Entry
entry_at s e =
    let o = entry_start e in
    entry_of (byte_at s o) (byte_at s (o + signer_in)) (byte_at s (o + period_in)) (num item_bytes s (o + board_in))

-- what the bytes say; of what there is no room for they say that it is not there
unfoldable pub contents : List ℕ → Contents
contents s =
    record {
      has = λ f. in_range f && bit_at s (place f);
      number = λ n. cond (is_peer (peer_of n)) (byte_at s (slot n)) 0;
      bag = tab (count s) (entry_at s);
    }

-- in short: a fact is there; p, the open period of peer j; c, the next period that it backs; the bag

abbrev pub has_on : List ℕ → Fact → Bool
has_on s f = (contents s).has f

abbrev pub current_on : List ℕ → ℕ → ℕ
current_on s j = (contents s).number (CurrentOf j)

abbrev pub to_back_on : List ℕ → ℕ → ℕ
to_back_on s j = (contents s).number (ToBackOf j)

abbrev pub bag_on : List ℕ → List Entry
bag_on s = (contents s).bag

-- the bytes of entry e are those of the entry that they say: its kind is 1, 2 or 3, and the signer of a board is 0
pub record Settled (s : List ℕ) (e : ℕ) : Type 0 where
  pub kind : byte_at s (entry_start e) ≡ kind_of (entry_at s e)
  pub signer : byte_at s (entry_start e + signer_in) ≡ signer_of (entry_at s e)

-- the bytes are settled by what they say: as many as the layout has, each entry's own, and 0 after the last entry
pub record Canon (s : List ℕ) : Type 0 where
  pub long : length s ≡ size
  pub bytes : Bytes s
  pub counted : count s ≤ entries
  pub settled : (e : ℕ) → e < count s → Settled s e
  pub rest : (i : ℕ) → entry_start (count s) ≤ i → byte_at s i ≡ 0

-- s are the bytes of a state, and they say c
pub record Holds (s : List ℕ) (c : Contents) : Type 0 where
  pub canon : Canon s
  pub says : contents s ≡ c

-- nothing held: the contents of the fresh state
abbrev pub empty : Contents
empty = record { has = λ f. false; number = λ n. 0; bag = [] }

-- there is room for the contents
pub record Fits (c : Contents) : Type 0 where
  pub facts : (f : Fact) → c.has f ≡ true → in_range f ≡ true
  pub small : (n : Number) → c.number n < 256
  pub others : (n : Number) → is_peer (peer_of n) ≡ false → c.number n ≡ 0
  pub counted : length c.bag ≤ entries
  pub entry : (e : ℕ) → e < length c.bag → EntryFits (nth c.bag e)

-- c, and every fact of the set
unfoldable pub adding : (Fact → Bool) → Contents → Contents
adding new c = record { has = λ f. new f || c.has f; number = c.number; bag = c.bag }

-- c, and the fact f
unfoldable pub insert : Fact → Contents → Contents
insert f c = adding (λ g. same_fact g f) c

-- c, with the value v for the number n
unfoldable pub store : Number → ℕ → Contents → Contents
store n v c = record { has = c.has; number = λ m. cond (same_number m n) v (c.number m); bag = c.bag }

-- c, with the entry x at the bag's end
unfoldable pub with_entry : Entry → Contents → Contents
with_entry x c = record { has = c.has; number = c.number; bag = c.bag ++ (x ∷ []) }

-- the same, unless it is there
unfoldable pub enter_on : Entry → Contents → Contents
enter_on x c = cond (is_in x c.bag) c (with_entry x c)
