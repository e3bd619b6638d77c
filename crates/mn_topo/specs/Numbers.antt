-- Maps that answer places in a list.
use Rattle.std.specs.Prelude.{◌≡◌, ℕ, min, max, ◌&&◌, ◌==◌, List, position, Vec}
use Rattle.std.specs.declared.alloc.Global.{Global}
use Rattle.std.specs.Str.{bytes_eq}
use Rattle.std.specs.HashMap.{HashMap, get, get_by}
use Rattle.mn_wiring.specs.declared.links.LinkEnds.{LinkEnds}
use Rattle.mn_topo.specs.Names.{number_of}

-- by its bytes each name is found at its number, and no other
abbrev pub AreNumbers : {S : Type 0} → HashMap (Vec ℕ Global) ℕ S → List (List ℕ) → Type 0
AreNumbers numbers names = (name : List ℕ) → get_by (λ key. bytes_eq name key.items) numbers ≡ number_of names name

-- by the pair of nodes that it joins, the lesser first, each link is found at its number, and no other
abbrev pub ArePairs : {S : Type 0} → HashMap (ℕ × ℕ) ℕ S → List LinkEnds → Type 0
ArePairs pairs links = (x y : ℕ) →
    get (λ one other. one.0 == other.0 && one.1 == other.1) pairs (x, y)
    ≡ position (λ link. x == min link.a.0 link.b.0 && y == max link.a.0 link.b.0) links
