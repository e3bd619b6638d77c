-- How much there is of each as packets move.
use Rattle.std.proofs.Common.{ℕ, ◌≡◌, ◌+◌, List, [], ◌∷◌, ◌++◌, length, refl, arith, ◌∙◌, ap, sym, subst, Some, None}
use Rattle.std.specs.Prelude.{slice_set, slice_get}
use Rattle.std.proofs.lemmas.List.{length-set, length_push}
use Rattle.mn_flight.specs.declared.Item.{Item}
use Rattle.mn_flight.specs.Flying.{on_channel, without, IsFlight}
use Rattle.mn_ledger.specs.declared.verdict.Verdict.{Verdict}
use Rattle.mn_transit.specs.declared.flown.Flown.{Flown}
use Rattle.mn_paths.specs.Visits.{Visits}
use Rattle.mn_transit.specs.Moving.{Moving, bytes_in, CountsOn}
use Rattle.mn_transit.proofs.Bytes.{bytes_left, bytes_more}

-- one after another
pub counts_then : (a b c : Moving) (p q k l x y : ℕ) → CountsOn a b p k x → CountsOn b c q l y → CountsOn a c (p + q) (k + l) (x + y)
counts_then a b c p q k l x y one two = record {
  channels = two.channels ∙ one.channels;
  verdicts = omega (arith, one.verdicts, two.verdicts);
  copies = omega (arith, one.copies, two.copies);
  bytes = omega (arith, one.bytes, two.bytes);
}

-- the same counts, of what is equal to packets that have them
counts_so : (m it new : Moving) (p k x : ℕ) → new ≡ it → CountsOn m it p k x → CountsOn m new p k x
counts_so m it new p k x is counts = subst (λ n. CountsOn m n p k x) (sym is) counts

pub counts_still : (m new : Moving) (copies bytes : ℕ) → new ≡ m → CountsOn m new 0 copies bytes
counts_still m new copies bytes is =
    counts_so m m new 0 copies bytes is (record { channels = refl; verdicts = omega arith; copies = omega arith; bytes = omega arith })

pub counts_begun : (m new : Moving) → new ≡ record m { delivered = None } → CountsOn m new 0 0 0
counts_begun m new is =
    counts_so m (record m { delivered = None }) new 0 0 0 is
    (record { channels = refl; verdicts = omega arith; copies = omega arith; bytes = omega arith })

pub counts_spare : (m new : Moving) (spare : ℕ) → new ≡ record m { spare = spare } → CountsOn m new 0 0 0
counts_spare m new spare is =
    counts_so m (record m { spare = spare }) new 0 0 0 is
    (record { channels = refl; verdicts = omega arith; copies = omega arith; bytes = omega arith })

pub counts_judged : (m new : Moving) (packet copies bytes : ℕ) (verdict : Verdict) → new ≡ record m { verdicts = slice_set m.verdicts packet verdict } →
    CountsOn m new 0 copies bytes
counts_judged m new packet copies bytes verdict is =
    let many = length-set m.verdicts packet verdict in
    counts_so m (record m { verdicts = slice_set m.verdicts packet verdict }) new 0 copies bytes is
    (record { channels = refl; verdicts = omega (arith, many); copies = omega arith; bytes = omega arith })

pub counts_delivered : (m new : Moving) (packet bytes : ℕ) (verdict : Verdict) (packet_bytes : List ℕ) →
    new ≡ record m { verdicts = slice_set m.verdicts packet verdict; copies = m.copies + 1; delivered = Some packet_bytes } → CountsOn m new 0 1 bytes
counts_delivered m new packet bytes verdict packet_bytes is =
    counts_so m (record m { verdicts = slice_set m.verdicts packet verdict; copies = m.copies + 1; delivered = Some packet_bytes }) new 0 1 bytes is
    (record { channels = refl; verdicts = omega (arith, length-set m.verdicts packet verdict); copies = omega arith; bytes = omega arith })

pub counts_sent : (m new : Moving) (packet spare : ℕ) (verdict : Verdict) (item : Item Flown) →
    new ≡ record m { flying = m.flying ++ item ∷ []; spare = spare; verdicts = slice_set m.verdicts packet verdict } →
    CountsOn m new 0 0 (length item.item.frame.packet)
counts_sent m new packet spare verdict item is =
    let more = bytes_more m.flying item in
    let many = length-set m.verdicts packet verdict in
    counts_so m (record m { flying = m.flying ++ item ∷ []; spare = spare; verdicts = slice_set m.verdicts packet verdict }) new 0 0
    (length item.item.frame.packet) is
    (record { channels = refl; verdicts = omega (arith, many); copies = omega arith; bytes = omega (arith, more) })

pub counts_more : (m new : Moving) (spare : ℕ) (verdict : Verdict) (path : Visits) →
    new ≡ record m { verdicts = m.verdicts ++ verdict ∷ []; paths = m.paths ++ path ∷ []; spare = spare } → CountsOn m new 1 0 0
counts_more m new spare verdict path is =
    counts_so m (record m { verdicts = m.verdicts ++ verdict ∷ []; paths = m.paths ++ path ∷ []; spare = spare }) new 1 0 0 is
    (record { channels = refl; verdicts = omega (arith, length_push m.verdicts verdict); copies = omega arith; bytes = omega arith })

-- what is taken is as many bytes less
pub counts_taken : (m left : Moving) (channel place : ℕ) (item : Item Flown) → IsFlight m.channels m.flying →
    Some item ≡ slice_get (on_channel channel m.flying) place →
    left ≡ record m { flying = without (Some item) m.flying; spare = left.spare } →
    CountsOn m left 0 0 0 × (bytes_in left.flying + length item.item.frame.packet ≡ bytes_in m.flying)
counts_taken m left channel place item flight found is =
    let same = ap (λ (n : Moving). bytes_in n.flying) is in
    let less = bytes_left channel place m.flying item flight.ascending found in (
      record {
        channels = ap (λ (n : Moving). n.channels) is;
        verdicts = (let even = ap (λ (n : Moving). length n.verdicts) is in omega (arith, even));
        copies = (let even = ap (λ (n : Moving). n.copies) is in omega (arith, even));
        bytes = omega (arith, same, less);
      },
      omega (arith, same, less),
    )

-- so where it flies on, no more bytes fly than before
pub counts_back : (m left there new : Moving) (paths : List Visits) (size : ℕ) → CountsOn m left 0 0 0 → bytes_in left.flying + size ≡ bytes_in m.flying →
    there ≡ record left { paths = paths } →
    CountsOn there new 0 1 size → CountsOn m new 0 1 0
counts_back m left there new paths size taken less visits goes = record {
  channels = goes.channels ∙ ap (λ (n : Moving). n.channels) visits ∙ taken.channels;
  verdicts = (let same = ap (λ (n : Moving). length n.verdicts) visits in omega (arith, same, goes.verdicts, taken.verdicts));
  copies = (let same = ap (λ (n : Moving). n.copies) visits in omega (arith, same, goes.copies, taken.copies));
  bytes = (let same = ap (λ (n : Moving). bytes_in n.flying) visits in omega (arith, same, goes.bytes, less));
}
