-- The limits of a network and of a run.
use Rattle.std.specs.Prelude.{ℕ}

-- targets that a VRF imports, and that it exports
abbrev pub most_targets : ℕ
most_targets = 16

-- static routes of all sites
abbrev pub most_static_routes : ℕ
most_static_routes = 65536

-- labels that a node can give, 16 to 1,048,575: RFC 3032, section 2.1
abbrev pub most_labels : ℕ
most_labels = 1048560

-- notices and messages in flight
abbrev pub most_in_flight : ℕ
most_in_flight = 2000000

-- total lengths of the packets that fly
abbrev pub most_flying_bytes : ℕ
most_flying_bytes = 268435456

-- steps that are done in a run
abbrev pub most_steps : ℕ
most_steps = 4000000

-- lines of a script
abbrev pub most_script_lines : ℕ
most_script_lines = 3000000
