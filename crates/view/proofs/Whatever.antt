-- What is good where some items clash is good whatever clashes: nothing that is asked of contents speaks of it.
use Prim.Native.Nat.{ℕ}
use mathlib.Core.Bool.{Bool}
use Rattle.state.specs.Contents.{Contents}
use Rattle.header.specs.declared.Head.{Head}
use Rattle.view.specs.View.{table_of}
use Rattle.view.specs.Good.{Good}

pub good_whatever : (h : Head) (clash : ℕ → ℕ → Bool) (c : Contents) → Good (table_of h clash) c → (other : ℕ → ℕ → Bool)
    → Good (table_of h other) c
good_whatever h clash c G other =
    let W = G.valid in
    record {
      valid = record {
        sets = record {
          posts = W.sets.posts;
          signs = W.sets.signs;
          shares = W.sets.shares;
          receipts = W.sets.receipts;
          holds = W.sets.holds;
          knows = W.sets.knows;
        };
        counters = record { opens = W.counters.opens; behind = W.counters.behind; peers = W.counters.peers };
        down = W.down;
        bag = record { size = W.bag.size; entries = W.bag.entries; apart = W.bag.apart };
        heard = W.heard;
      };
      sound = G.sound;
    }
