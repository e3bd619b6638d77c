-- What follows where no rule of a table is broken, and where one is.
use Rattle.std.proofs.Common.{◌≡◌, ℕ, Bool, true, false, List, [], ◌∷◌, Some, Ok, Err, refl}
use Rattle.mn_pcap.specs.declared.refusal.PcapRule.TheVariants.{CutShort, IsPcapng, BadMagic, BadVersion, BadLinkType, BadRecord}
use Rattle.mn_pcap.specs.declared.refusal.PcapRule.{PcapRule}
use Rattle.mn_pcap.specs.declared.refusal.PcapBad.{PcapBad}
use Rattle.mn_pcap.specs.declared.refusal.PcapBad.TheVariants.{Refused}
use Rattle.mn_pcap.specs.Reading.{first_refusal, unless}

-- of a record's
pub record_passes : {X : Type 0} (at : ℕ) (x y : X) (a b c : Bool) →
    unless (first_refusal ((a, Refused CutShort at) ∷ (b, Refused BadRecord at) ∷ (c, Refused CutShort at) ∷ [])) x ≡ Ok y →
    (a ≡ false) × (b ≡ false) × (c ≡ false) × (x ≡ y)
record_passes at x y true b c e = cc
record_passes at x y false true c e = cc
record_passes at x y false false true e = cc
record_passes at x y false false false e = (refl, refl, refl, cc)

pub record Broken (at : ℕ) (rows : List (Bool × PcapBad)) (bad : PcapBad) : Type 0 where
  pub rule : PcapRule
  pub is : first_refusal rows ≡ Some (Refused rule at)
  pub bad_is : bad ≡ Refused rule at

pub record_refused : {X : Type 0} (at : ℕ) (x : X) (bad : PcapBad) (a b c : Bool) →
    unless (first_refusal ((a, Refused CutShort at) ∷ (b, Refused BadRecord at) ∷ (c, Refused CutShort at) ∷ [])) x ≡ Err bad →
    Broken at ((a, Refused CutShort at) ∷ (b, Refused BadRecord at) ∷ (c, Refused CutShort at) ∷ []) bad
record_refused at x bad true b c e = record { rule = CutShort; is = refl; bad_is = cc }
record_refused at x bad false true c e = record { rule = BadRecord; is = refl; bad_is = cc }
record_refused at x bad false false true e = record { rule = CutShort; is = refl; bad_is = cc }
record_refused at x bad false false false e = cc

-- of the file's header
pub header_passes : {X : Type 0} (x y : X) (a b c d e f : Bool) →
    unless (first_refusal ((a, Refused CutShort 0) ∷ (b, Refused IsPcapng 0) ∷ (c, Refused BadMagic 0) ∷ (d, Refused CutShort 0) ∷ (e, Refused BadVersion 4)
    ∷ (f, Refused BadLinkType 20) ∷ [])) x ≡ Ok y → (c ≡ false) × (d ≡ false) × (e ≡ false) × (f ≡ false) × (x ≡ y)
header_passes x y true b c d e f h = cc
header_passes x y false true c d e f h = cc
header_passes x y false false true d e f h = cc
header_passes x y false false false true e f h = cc
header_passes x y false false false false true f h = cc
header_passes x y false false false false false true h = cc
header_passes x y false false false false false false h = (refl, refl, refl, refl, cc)
