-- The table of the rules from a header, and the state of the rules from contents.
use Rattle.std.specs.Prelude.{ℕ, suc, Bool, false, ◌&&◌, ◌||◌, List, [], ◌∷◌, eqb}
use Rattle.base.specs.Bits.{bit}
use Rattle.rules.specs.declared.Entry.{Entry}
use Rattle.rules.specs.declared.Entry.TheVariants.{Hash}
use Rattle.rules.specs.declared.Step.{Step}
use Rattle.rules.specs.Table.{Table, quorum}
use Rattle.rules.specs.Bag.{same_entry, entry_at}
use Rattle.rules.specs.State.{State}
use Rattle.rules.specs.Rules.{answer, board_by, unposted, backers}
use Rattle.state.specs.declared.Fact.TheVariants.{Posted, Signed, Shared, Receipted, Held, Known, Heard}
use Rattle.state.specs.declared.Number.TheVariants.{CurrentOf, ToBackOf, DownOf}
use Rattle.state.specs.Contents.{Contents, contents, to_back_on, bag_on}
use Rattle.header.specs.declared.Head.{Head}
use Rattle.header.specs.Header.{is_honest}
use Rattle.header.specs.Quorum.{weight_of}

-- the table of the rules
abbrev pub table_of : Head → (ℕ → ℕ → Bool) → Table
table_of h clash = record {
  n = h.n;
  t = h.t;
  honest = is_honest h;
  weight_of = weight_of h;
  periods = h.periods;
  items = h.items;
  clash = clash;
}

-- of most steps the rules do not ask what clashes: they are judged as if nothing did
abbrev pub no_clash : ℕ → ℕ → Bool
no_clash x y = false

-- hand asks it of one item, and that item's row is enough: the items that clash with it, as a set
abbrev pub in_row : ℕ → ℕ → ℕ → Bool
in_row row x y = bit row y

-- a heard entry number is that of the hash of signer k, period p and board B; the bag's first entry has number i
unfoldable pub told : (ℕ → Bool) → ℕ → List Entry → ℕ → ℕ → ℕ → Bool
told heard i [] k p B = false
told heard i (a ∷ bag) k p B = (heard i && same_entry (Hash k p B) a) || told heard (suc i) bag k p B

-- the state of the rules
abbrev pub state_of : Contents → State
state_of c = record {
  posted = λ x. c.has (Posted x);
  signed = λ k p x. c.has (Signed k p x);
  shared = λ k p x. c.has (Shared k p x);
  receipted = λ p x. c.has (Receipted p x);
  bag = c.bag;
  down = λ j. eqb (c.number (DownOf j)) 1;
  held = λ j p x. c.has (Held j p x);
  db = λ j p x k. c.has (Known j p x k);
  heard = λ j k p B. told (λ e. c.has (Heard j e)) 0 c.bag k p B;
  current = λ j. c.number (CurrentOf j);
  to_back = λ j. c.number (ToBackOf j);
}

-- the state of the rules that the bytes say
abbrev pub state_on : List ℕ → State
state_on s = state_of (contents s)

-- a set of peers that reaches t
abbrev pub quorum_of : Head → (ℕ → Bool) → Bool
quorum_of h S = quorum (table_of h no_clash) S

-- the answer of the rules to a step on what the bytes say, by what clashes
abbrev pub answer_by : Head → (ℕ → ℕ → Bool) → List ℕ → Step → ℕ
answer_by h clash s st = answer (table_of h clash) (state_of (contents s)) st

-- the same of any step but a hand
abbrev pub answer_on : Head → List ℕ → Step → ℕ
answer_on h s st = answer_by h no_clash s st

-- peer j's board of period p, by what the bytes say
abbrev pub board_on : Head → List ℕ → ℕ → ℕ → ℕ
board_on h s j p = board_by (table_of h no_clash) (state_of (contents s)) j p

-- its board of the next period that it backs
abbrev pub next_board_on : Head → List ℕ → ℕ → ℕ
next_board_on h s j = board_on h s j (to_back_on s j)

-- an item of the board is not posted
abbrev pub unposted_on : Head → List ℕ → ℕ → Bool
unposted_on h s B = unposted (table_of h no_clash) (state_of (contents s)) B

-- entry e of the bag
abbrev pub entry_on : List ℕ → ℕ → Entry
entry_on s e = entry_at (bag_on s) e

-- the signers of the backings of period p and board B
abbrev pub backers_on : List ℕ → ℕ → ℕ → ℕ → Bool
backers_on s p B = backers (bag_on s) p B

-- the signers of the hashes of period p and board B that peer j heard
abbrev pub heard_on : List ℕ → ℕ → ℕ → ℕ → ℕ → Bool
heard_on s j p B = λ k. (state_of (contents s)).heard j k p B
