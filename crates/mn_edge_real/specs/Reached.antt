-- How far files were told of, and what is kept of the last read.
use Rattle.std.specs.Prelude.{◌≡◌, ℕ, ◌+◌, ◌-◌, ◌^◌, ◌<◌, ◌≤◌, List, Option, Some, length, take, drop, min, option_map, string_bytes, unwrap_or}
use Rattle.std.specs.Option.{ForSome}
use Rattle.indexmap.specs.IndexMap.{get_by_text}
use Rattle.mn_edge.specs.Files.{Files, file}
use Rattle.mn_edge_real.specs.declared.last_read.LastRead.{LastRead}
use Rattle.mn_edge_real.specs.declared.told.Told.{Told}

-- the end of the bytes that were told of the file of this name, or 0
abbrev pub end_told : Told → List ℕ → ℕ
end_told told name = unwrap_or (get_by_text told.ends name) 0

-- the file was told of as far as the bytes go that are kept of it
abbrev pub IsTold : LastRead → Told → Type 0
IsTold last told = 0 < length last.bytes.items → min (last.at + length last.bytes.items) (2 ^ 64 - 1) ≤ end_told told (string_bytes last.name)

-- where the files are told, the bytes that are kept are those of their file at their place
abbrev pub IsKept : Option Files → LastRead → Type 0
IsKept files last = 0 < length last.bytes.items →
    ForSome files (λ m. option_map (λ bytes. take (length last.bytes.items) (drop last.at bytes)) (file m (string_bytes last.name)) ≡ Some last.bytes.items)
