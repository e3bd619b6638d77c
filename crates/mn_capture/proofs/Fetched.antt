-- A buffer that is filled by fetches, and the record in it.
use Rattle.std.proofs.Common.{◌≡◌, ◌≤◌, ◌<◌, ◌+◌, ◌-◌, ℕ, List, ◌++◌, length, take, drop, map, Some, refl, ap, sym, ◌∙◌, arith, length-append, length-drop}
use Rattle.std.proofs.Common.{get_or}
use Rattle.std.specs.Prelude.{slice_get}
use Rattle.std.specs.Option.{option_map}
use Rattle.std.proofs.Math.Seq.{take-add}
use Rattle.std.proofs.lemmas.List.{take_all, take_at, take-append-le, drop-drop, drop_at, length-take-le}
use Rattle.std.proofs.lemmas.Option.{slice_get-map, slice_get_read}
use Rattle.std.proofs.lemmas.Slice.{take-put_mid_below}
use Rattle.mn_edge.specs.Files.{Files, Fetched, file}
use Rattle.mn_pcap.specs.declared.message.Place.{Place}
use Rattle.mn_pcap.specs.Reading.{bytes_at}
use borrow.Rule.Slice.PartMut.{put_mid, post_of}

same_bytes : (m : Files) (name whole : List ℕ) (at count : ℕ) (buf : List ℕ) → file m name ≡ Some whole → (f : Fetched m name at count buf) → f.bytes ≡ whole
same_bytes m name whole at count buf there f = let e : Some f.bytes ≡ Some whole = sym f.there ∙ there in cc

-- a fetch puts what comes behind what came before
pub filled_on : (m : Files) (name whole old sub : List ℕ) (at count more : ℕ) → file m name ≡ Some whole → count ≤ length old → more ≤ length sub
    → Fetched m name (at + count) more sub → take count old ≡ take count (drop at whole)
    → take (count + more) (put_mid count (length old - count) old sub) ≡ take (count + more) (drop at whole)
filled_on m name whole old sub at count more there within room f so_far =
    let rest : List ℕ = post_of count (length old - count) old in
    take-add count more (put_mid count (length old - count) old sub)
    ∙ ap (λ (l : List ℕ). l ++ take more (drop count (put_mid count (length old - count) old sub)))
    (take-put_mid_below count (length old - count) old sub count (omega arith) within ∙ so_far)
    ∙ ap (λ (l : List ℕ). take count (drop at whole) ++ l)
    (ap (take more) (drop_at (take count old) (sub ++ rest) count (length-take-le count old within))
    ∙ take-append-le more sub rest room
    ∙ f.front
    ∙ ap (λ (l : List ℕ). take more (drop (at + count) l)) (same_bytes m name whole (at + count) more sub there f)
    ∙ ap (take more) (sym (drop-drop count at whole)))
    ∙ sym (take-add count more (drop at whole))

pub filled_room : (old sub : List ℕ) (count more : ℕ) → count ≤ length old → more ≤ length sub →
    count + more ≤ length (put_mid count (length old - count) old sub)
filled_room old sub count more within room =
    let rest : List ℕ = post_of count (length old - count) old in
    let all = length-append (take count old) (sub ++ rest) in
    let behind = length-append sub rest in
    let front = length-take-le count old within in
    omega arith

-- nothing comes only at the file's end
pub filled_all : (m : Files) (name whole old sub : List ℕ) (at count more : ℕ) → file m name ≡ Some whole → count ≤ length old
    → Fetched m name (at + count) more sub → more ≡ 0 → 0 < length sub → take count old ≡ take count (drop at whole)
    → take count (put_mid count (length old - count) old sub) ≡ take (length (put_mid count (length old - count) old sub)) (drop at whole)
filled_all m name whole old sub at count more there within f none room so_far =
    let end : length f.bytes ≤ at + count = f.none_at_end room none in
    let same = ap length (same_bytes m name whole (at + count) more sub there f) in
    let left = length-drop at whole in
    let size = length-append (take count old) (sub ++ post_of count (length old - count) old) in
    let front = length-take-le count old within in
    take-put_mid_below count (length old - count) old sub count (omega arith) within
    ∙ so_far
    ∙ take_all count (drop at whole) (omega arith)
    ∙ sym (take_all (length (put_mid count (length old - count) old sub)) (drop at whole) (omega arith))

-- The record of a number.

pub at_place : {X : Type 0} (f : Place → X) (places : List Place) (nth : ℕ) (place : Place) → 1 ≤ nth → nth ≤ length places →
    place ≡ get_or places (nth - 1) place
    → slice_get (map f places) (nth - 1) ≡ Some (f place)
at_place f places nth place first last is =
    slice_get-map f places (nth - 1) ∙ ap (option_map f) (slice_get_read places (length places) (nth - 1) place refl (omega arith) is)

-- what is left in the buffer is the record's bytes
pub bytes_fetched : (place : Place) (whole items buf rest : List ℕ) (count size : ℕ) → items ≡ take count (take size (buf ++ rest)) → length buf ≡ size →
    size ≡ place.length
    → take count buf ≡ take (length buf) (drop place.at whole) → items ≡ bytes_at whole place
bytes_fetched place whole items buf rest count size left length_is size_is came =
    let end : length buf ≡ (place.at + place.length) - place.at = omega arith in
    left ∙ ap (take count) (take_at buf rest size length_is) ∙ came ∙ ap (λ (n : ℕ). take n (drop place.at whole)) end
