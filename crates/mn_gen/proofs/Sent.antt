-- The capture of a number is what a writer of captures makes of its packets, and so is read again.
use Rattle.std.proofs.Common.{◌≡◌, ◌≤◌, ◌++◌, ℕ, List, [], ◌∷◌, map, length, Ok, refl, ap, sym, ◌∙◌, subst, arith}
use Rattle.std.specs.Prelude.{All}
use Rattle.std.specs.List.{flat_map}
use Rattle.std.proofs.lemmas.Simd.{map-map}
use Rattle.std.proofs.lemmas.List.Elements.{All-map}
use Rattle.std.proofs.lemmas.List.Concat.{flat_map-cons}
use Rattle.mn_pcap.specs.Format.{header, record_of, snaplen}
use Rattle.mn_pcap.specs.Reading.{packets_of}
use Rattle.mn_pcap.proofs.Captures.{written_is_read}
use Rattle.mn_gen.specs.Capture.{capture_bytes, packet_to, record_to}
use Rattle.mn_gen.specs.Shape.{edges}

-- a packet with its tick
abbrev sent : ℕ → ℕ × List ℕ
sent edge = (0, packet_to edge)

abbrev written : ℕ × List ℕ → List ℕ
written p = record_of p.0 p.1

each_written : (es : List ℕ) → flat_map written (map sent es) ≡ flat_map record_to es
each_written [] = refl
each_written (e ∷ es) =
    flat_map-cons written (sent e) (map sent es) ∙ ap (λ (l : List ℕ). record_to e ++ l) (each_written es) ∙ sym (flat_map-cons record_to e es)

each_small : (es : List ℕ) → All (λ (p : ℕ × List ℕ). length p.1 ≤ snaplen) (map sent es)
each_small es = All-map (λ (p : ℕ × List ℕ). length p.1 ≤ snaplen) sent es (λ k d below. omega arith)

pub capture_is_read : (number : ℕ) → packets_of (capture_bytes number) ≡ Ok (map packet_to (edges number))
unfolding capture_bytes
capture_is_read number =
    let es = edges number in
    subst (λ (l : List ℕ). packets_of (header 228 ++ l) ≡ Ok (map packet_to es)) (each_written es)
    (written_is_read (map sent es) (each_small es) ∙ ap Ok (map-map (λ (p : ℕ × List ℕ). p.1) sent es))
