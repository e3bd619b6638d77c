-- The headers of captures.
use Rattle.std.specs.Prelude.{ℕ, List, [], nat_lt, if◌then◌else◌}
use Rattle.mn_pcap.specs.Format.{header}
use Rattle.mn_output_laws.specs.Files.{OutputFile, Frames}
use Rattle.mn_output_laws.specs.Contents.{ppp}

-- the headers of the captures of the first so many links
abbrev pub frame_heads : ℕ → OutputFile → List ℕ
frame_heads links (Frames l) = if nat_lt l links then header ppp else []
frame_heads links out = []
