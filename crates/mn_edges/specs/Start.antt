-- Edges at the start: each of their sites is attached, and nothing was received.
use Rattle.std.specs.Prelude.{ℕ, ◌+◌, ◌==◌, nat_lt, if◌then◌else◌, map, filter, length, Option, Some, None}
use Rattle.std.specs.List.{range_with_len}
use Rattle.mn_topo.specs.Network.{Network}
use Rattle.mn_topo.specs.VrfTable.{is_edge}
use Rattle.mn_ledger.specs.Places.{home_of}
use Rattle.mn_pe.specs.Edge.{Edge}
use Rattle.mn_pe.specs.Start.{edge_at_start}

-- how many of a node's sites come before this one
abbrev pub sites_before : Network → ℕ → ℕ → ℕ
sites_before topology node site = length (filter (λ s. home_of topology s == node) (range_with_len 0 site))

-- its sites have the labels from 16 on, in site order: RFC 3032, section 2.1
abbrev pub label_at_start : Network → ℕ → ℕ → Option ℕ
label_at_start topology node site = if home_of topology site == node then Some (16 + sites_before topology node site) else None

abbrev pub first_edge : Network → ℕ → Edge
first_edge topology node =
    record (edge_at_start topology node) { labels = map (label_at_start topology node) (range_with_len 0 (length topology.sites)) }

abbrev pub first_edge_or_none : Network → ℕ → Option Edge
first_edge_or_none topology node = if is_edge topology.vrfs node then Some (first_edge topology node) else None

-- with the sites below a number attached
abbrev pub label_below : Network → ℕ → ℕ → ℕ → Option ℕ
label_below topology node limit site = if nat_lt site limit then label_at_start topology node site else None

abbrev pub edge_below : Network → ℕ → ℕ → Edge
edge_below topology node limit =
    record (edge_at_start topology node) { labels = map (label_below topology node limit) (range_with_len 0 (length topology.sites)) }
