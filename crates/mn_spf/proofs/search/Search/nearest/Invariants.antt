use Rattle.std.proofs.Common.{◌≡◌, ◌<◌, ℕ, length}
use Rattle.std.specs.Prelude.{All}
use Rattle.std.specs.BinaryHeap.{heap_items, heap_len}
use Rattle.mn_linkdb.specs.Learned.{Learned}
use Rattle.mn_spf.specs.Search.{state_of, IsSearch, NoneOpen}
use Rattle.mn_spf.proofs.search.Search.nearest.Given as goal

abbrev pub invariant-loop-way : goal.invariant-loop-way
invariant-loop-way l = record {
  there : All (λ way. way.0.to < length l.self.settled.items) (heap_items l.self.queue);
  settled : l.self.settled.items ≡ l.fn.self.settled.items;
  search : (learned : Learned) (root limit : ℕ) → IsSearch learned root NoneOpen limit (state_of l.fn.self) →
      IsSearch learned root NoneOpen limit (state_of l.self);
}

abbrev pub decreases-loop-way : goal.decreases-loop-way
decreases-loop-way l = heap_len l.self.queue
