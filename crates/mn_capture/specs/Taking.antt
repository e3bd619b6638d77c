-- A scan that is fed a file piece by piece, as far as its records are wanted.
use Rattle.std.specs.Prelude.{ℕ, ◌≡◌, ◌≤◌, ◌<◌, ◌⊎◌, false, List, [], ◌++◌, length, take, Option, None, Some, ⊤}
use Rattle.std.specs.Option.{ForSome}
use Rattle.mn_edge.specs.Files.{Files, file}
use Rattle.mn_pcap.specs.Reading.{count_of}
use Rattle.mn_pcap.specs.Scans.{IsFed, is_lost}
use Rattle.mn_pcap.specs.declared.scan.Scan.{Scan}

-- of these bytes the scan was fed all, or a first part that has more records than are allowed
pub record HasTaken (most_records : ℕ) (bytes : List ℕ) (scan : Scan) : Type 0 where
  pub fed : List ℕ
  pub rest : List ℕ
  pub whole : fed ++ rest ≡ bytes
  pub is_fed : IsFed scan fed
  pub kept : is_lost scan ≡ false
  pub all_or_many : (rest ≡ []) ⊎ (most_records < count_of fed)

-- the first so many bytes of the file have come, where it is told
pub record HasCome (files : Option Files) (name : List ℕ) (most_records at : ℕ) (scan : Scan) : Type 0 where
  pub bytes : List ℕ
  pub size : length bytes ≡ at
  pub front : ForSome files (λ m. ForSome (file m name) (λ whole. bytes ≡ take (length bytes) whole))
  pub taken : HasTaken most_records bytes scan

-- the whole file, or none where it has more bytes than are allowed
abbrev pub IsTaken : ℕ → ℕ → List ℕ → Option Scan → Type 0
IsTaken most_bytes most_records bytes None = most_bytes < length bytes
IsTaken most_bytes most_records bytes (Some scan) = (length bytes ≤ most_bytes) × HasTaken most_records bytes scan

-- some bytes within the limit, also from a shelf that tells no content
abbrev pub HasSome : ℕ → ℕ → Option Scan → Type 0
HasSome most_bytes most_records None = ⊤
HasSome most_bytes most_records (Some scan) = (bytes : List ℕ) × (length bytes ≤ most_bytes) × HasTaken most_records bytes scan
