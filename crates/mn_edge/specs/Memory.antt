-- The devices in memory, as contracts see them, and which of their calls fail.
use Rattle.std.specs.Prelude.{◌≡◌, ℕ, ◌+◌, ◌-◌, ◌/◌, ◌^◌, ◌==◌, min, Bool, true, false, not, ◌&&◌, List, [], ◌∷◌, ◌++◌, map, take, length, Option, None, Some}
use Rattle.std.specs.Prelude.{zero, suc, is_none, String}
use Rattle.std.specs.Prelude.{Vec, string_bytes, Result, Ok, Err, ⊤, refl}
use Rattle.std.specs.List.{list_any}
use Rattle.std.specs.Option.{option_map_or}
use Rattle.std.specs.FinMap as fin
use Rattle.std.specs.Coded.{Coded, code_by, coded×, coded_ℕ, coded_bool, coded_list, coded_option}
use Rattle.std.specs.declared.alloc.Global.{Global}
use Rattle.mn_edge.specs.declared.device.DeviceBad.{DeviceBad}
use Rattle.mn_edge.specs.declared.device.DeviceBad.TheVariants.{Failed, NoMemory}
use Rattle.mn_edge.specs.Files.{Files, file, with_file}
use Rattle.mn_edge.specs.Written.{is_known, pairs}

-- the files of a list of names and bytes
abbrev pub files_of : List (String Global × Vec ℕ Global) → Files
files_of entries = fin.from_entries (pairs entries)

-- no name stands twice
abbrev pub all_differ : List (List ℕ) → Bool
all_differ [] = true
all_differ (n ∷ ns) = not (is_known ns n) && all_differ ns

-- the names of a list of named files
abbrev pub names_of : List (String Global × Vec ℕ Global) → List (List ℕ)
names_of entries = map (λ e. string_bytes e.0) entries

abbrev pub files_code : Coded Files
files_code = fin.code (coded_list coded_ℕ) (coded_list coded_ℕ)

-- a refusal is stored as whether it is because memory ran out
abbrev wants_memory : DeviceBad → Bool
wants_memory Failed = false
wants_memory NoMemory = true

abbrev bad_by : Bool → DeviceBad
bad_by false = Failed
bad_by true = NoMemory

pub bad_by-wants : (bad : DeviceBad) → bad_by (wants_memory bad) ≡ bad
bad_by-wants Failed = refl
bad_by-wants NoMemory = refl

abbrev bad_code : Coded DeviceBad
bad_code = code_by Bool coded_bool wants_memory bad_by bad_by-wants

-- a shelf in memory: its files, the numbers of the calls that fail, the calls so far, its faults, and why the last call was refused
pub record ShelfState : Type 0 where
  pub files : Files
  pub failing : List ℕ
  pub calls : ℕ
  pub read_faults : ℕ
  pub write_faults : ℕ
  pub refusal : Option DeviceBad

abbrev pub shelf_code : Coded ShelfState
shelf_code =
    code_by (Files × (List ℕ × (ℕ × (ℕ × (ℕ × Option DeviceBad)))))
    (coded× files_code (coded× (coded_list coded_ℕ) (coded× coded_ℕ (coded× coded_ℕ (coded× coded_ℕ (coded_option bad_code))))))
    (λ s. (s.files, (s.failing, (s.calls, (s.read_faults, (s.write_faults, s.refusal))))))
    (λ p. record {
      files = p.0;
      failing = p.1.0;
      calls = p.1.1.0;
      read_faults = p.1.1.1.0;
      write_faults = p.1.1.1.1.0;
      refusal = p.1.1.1.1.1;
    }) (λ _. refl)

-- a device's count of faults as contracts see it: where no call is to fail the device is sound, and has none
abbrev pub counted_by : List ℕ → ℕ → Option ℕ
counted_by [] count = None
counted_by (call ∷ calls) count = Some count

-- a sink in memory: its bytes, and the rest alike
pub record SinkState : Type 0 where
  pub bytes : List ℕ
  pub failing : List ℕ
  pub calls : ℕ
  pub faults : ℕ
  pub refusal : Option DeviceBad

-- the number of the next call, from 1; a counter stays at the end of its type
abbrev pub next_call : ℕ → ℕ
next_call calls = min (calls + 1) (2 ^ 64 - 1)

-- the number of calls after so many more
abbrev pub after_calls : ℕ → ℕ → ℕ
after_calls zero calls = calls
after_calls (suc more) calls = next_call (after_calls more calls)

-- the next call is one of those that fail
abbrev pub is_due : List ℕ → ℕ → Bool
is_due failing calls = list_any (λ n. n == next_call calls) failing

-- no file has this name
abbrev pub lacks : Files → List ℕ → Bool
lacks m name = is_none (file m name)

-- a call answers `Failed` exactly where it is to fail, unless memory runs out
abbrev pub FailsBy : {T : Type 0} → Bool → Result T DeviceBad → Type 0
FailsBy fails (Ok x) = fails ≡ false
FailsBy fails (Err Failed) = fails ≡ true
FailsBy fails (Err NoMemory) = ⊤

-- the same files, but that the one of this name, if it is there, has the piece behind its bytes
abbrev pub extended : Files → List ℕ → List ℕ → Files
extended m name piece = option_map_or (λ bytes. with_file m name (bytes ++ piece)) (file m name) m

-- the first half of a piece, rounded down
abbrev pub half : List ℕ → List ℕ
half piece = take (length piece / 2) piece

-- what stays of a piece after a call with this answer: all, its first half, or nothing because memory ran out
abbrev pub kept : {T : Type 0} → List ℕ → Result T DeviceBad → List ℕ
kept piece (Ok x) = piece
kept piece (Err Failed) = half piece
kept piece (Err NoMemory) = []
