-- What more bytes don't mend.
use Rattle.std.specs.Prelude.{Bool, true, false}
use Rattle.mn_pcap.specs.declared.refusal.PcapRule.TheVariants.{CutShort, IsPcapng, BadMagic, BadVersion, BadLinkType, BadRecord}
use Rattle.mn_pcap.specs.declared.refusal.PcapBad.{PcapBad}
use Rattle.mn_pcap.specs.declared.refusal.PcapBad.TheVariants.{Refused, NoMemory}

-- a refusal for anything but an end that comes too soon
abbrev pub lasts : PcapBad → Bool
lasts (Refused CutShort place) = false
lasts (Refused IsPcapng place) = true
lasts (Refused BadMagic place) = true
lasts (Refused BadVersion place) = true
lasts (Refused BadLinkType place) = true
lasts (Refused BadRecord place) = true
lasts NoMemory = false
