-- A scan that is fed a file piece by piece.
use Rattle.std.proofs.Common.{◌≡◌, ◌≤◌, ◌<◌, ◌+◌, ◌-◌, ◌⊎◌, ℕ, false, List, [], ◌++◌, length, take, Option, Some, inl, inr, refl, ap, sym, ◌∙◌, subst}
use Rattle.std.proofs.Common.{arith}
use Rattle.std.proofs.Common.{append_assoc, length-append}
use Rattle.std.specs.Option.{ForSome}
use Rattle.std.proofs.lemmas.List.{append-nil, length-take-le}
use Rattle.mn_edge.specs.Files.{Files, Fetched, file}
use Rattle.mn_edge.proofs.Fetching as fetching
use Rattle.mn_pcap.specs.Reading.{count_of}
use Rattle.mn_pcap.specs.Scans.{IsFed, is_lost}
use Rattle.mn_pcap.specs.declared.scan.Scan.{Scan}
use Rattle.mn_capture.specs.Taking.{HasTaken, HasCome}
use Rattle.mn_capture.proofs.Counts.{count_of-more}

-- what the count of a scan is
abbrev pub Counts : ℕ → Scan → Type 0
Counts count scan = (bytes : List ℕ) → IsFed scan bytes → is_lost scan ≡ false → count ≡ count_of bytes

-- A piece.

-- there are enough records: the piece is left out
pub left_out : (most count : ℕ) (bytes piece : List ℕ) (scan : Scan) → Counts count scan → most < count → HasTaken most bytes scan →
    HasTaken most (bytes ++ piece) scan
left_out most count bytes piece scan counts many t = record {
  fed = t.fed;
  rest = t.rest ++ piece;
  whole = sym (append_assoc t.fed t.rest piece) ∙ ap (λ (l : List ℕ). l ++ piece) t.whole;
  is_fed = t.is_fed;
  kept = t.kept;
  all_or_many = inr (subst (λ (n : ℕ). most < n) (counts t.fed t.is_fed t.kept) many);
}

-- while there are few records, all bytes were fed
pub all_fed : (most count : ℕ) (bytes : List ℕ) (scan : Scan) → Counts count scan → count ≤ most → (t : HasTaken most bytes scan) → t.fed ≡ bytes
all_fed most count bytes scan counts few t = by t.all_or_many
  where
    by : (t.rest ≡ []) ⊎ (most < count_of t.fed) → t.fed ≡ bytes
    by (inl none) = sym (append-nil t.fed) ∙ ap (λ (l : List ℕ). t.fed ++ l) (sym none) ∙ t.whole
    by (inr many) = let same = counts t.fed t.is_fed t.kept in absurd (omega arith)

pub fed_on : (most count : ℕ) (bytes piece : List ℕ) (old new : Scan) → Counts count old → count ≤ most
    → ((bytes : List ℕ) → IsFed old bytes → IsFed new (bytes ++ piece)) → is_lost new ≡ false → HasTaken most bytes old → HasTaken most (bytes ++ piece) new
fed_on most count bytes piece old new counts few feeds kept t = record {
  fed = t.fed ++ piece;
  rest = [];
  whole = append-nil (t.fed ++ piece) ∙ ap (λ (l : List ℕ). l ++ piece) (all_fed most count bytes old counts few t);
  is_fed = feeds t.fed t.is_fed;
  kept = kept;
  all_or_many = inl refl;
}

-- more records than are allowed, of all bytes
pub too_many : (most count : ℕ) (bytes : List ℕ) (scan : Scan) → Counts count scan → most < count → HasTaken most bytes scan → most < count_of bytes
too_many most count bytes scan counts many t =
    let same = counts t.fed t.is_fed t.kept in
    let more = count_of-more t.fed t.rest in
    let all = ap count_of t.whole in
    omega arith

-- The file.

pub begins : (files : Option Files) (name : List ℕ) (most : ℕ) (scan : Scan) → IsFed scan [] → is_lost scan ≡ false → HasCome files name most 0 scan
begins files name most scan fed kept = record {
  bytes = [];
  size = refl;
  front = λ m is whole there. refl;
  taken = record { fed = []; rest = []; whole = refl; is_fed = fed; kept = kept; all_or_many = inl refl };
}

pub comes_on : (files : Option Files) (name : List ℕ) (most at count : ℕ) (buf : List ℕ) (old new : Scan)
    → HasCome files name most at old → ForSome files (λ m. Fetched m name at count buf) → count ≤ length buf
    → ((bytes : List ℕ) → HasTaken most bytes old → HasTaken most (bytes ++ take count buf) new) → HasCome files name most (at + count) new
comes_on files name most at count buf old new come fetched room feeds = record {
  bytes = come.bytes ++ take count buf;
  size = let a = length-append come.bytes (take count buf) in let b = length-take-le count buf room in let c = come.size in omega (arith, a, b, c);
  front = λ m is. fetching.more m name come.bytes buf at count (sym come.size) (fetched m is) room (come.front m is);
  taken = feeds come.bytes come.taken;
}

pub whole_file : (files : Option Files) (name : List ℕ) (most at count : ℕ) (buf : List ℕ) (scan : Scan) (come : HasCome files name most at scan)
    → ForSome files (λ m. Fetched m name at count buf) → 0 < length buf → count ≡ 0 → (m : Files) → files ≡ Some m → file m name ≡ Some come.bytes
whole_file files name most at count buf scan come fetched room none m is =
    fetching.whole m name come.bytes buf at count (sym come.size) (fetched m is) room none (come.front m is)

pub past_limit : (files : Option Files) (name : List ℕ) (most at count limit : ℕ) (buf : List ℕ) (scan : Scan) → HasCome files name most at scan
    → ForSome files (λ m. Fetched m name at count buf) → at ≤ limit → limit - at < count
    → (m : Files) → files ≡ Some m → (bytes : List ℕ) × (file m name ≡ Some bytes) × (limit < length bytes)
past_limit files name most at count limit buf scan come fetched within over m is =
    fetching.past m name come.bytes buf at count limit (sym come.size) (fetched m is) within over
