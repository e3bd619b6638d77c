-- The ledger: the world, and the packets in it, after the steps of a journal.
use Rattle.std.specs.Prelude.{ℕ, ◌+◌, ◌==◌, ◌&&◌, Bool, true, false, cond, not, nat_lt, List, [], ◌∷◌, ◌++◌, map, filter, fold, Some, None}
use Rattle.mn_base.specs.declared.numbers.Rt.{Rt}
use Rattle.mn_topo.specs.Prefix.{AddressBlock, same_prefix}
use Rattle.mn_topo.specs.declared.sites.SiteDef.{SiteDef}
use Rattle.mn_topo.specs.Network.{Network}
use Rattle.mn_topo.specs.declared.steps.Step.{Step}
use Rattle.mn_topo.specs.declared.steps.Step.TheVariants.{LinkUp, LinkDown, LdpAdmin, BgpUp, BgpDown, AddRoute, DelRoute, Import, Export, Attach, Detach}
use Rattle.mn_topo.specs.declared.steps.Step.TheVariants.{Inject}
use Rattle.mn_topo.specs.declared.steps.JournalEntry.{JournalEntry}
use Rattle.mn_ledger.specs.Tables.{everywhere, put, put_pair}
use Rattle.mn_ledger.specs.Places.{vrf_at}
use Rattle.mn_ledger.specs.World.{SiteRoute, Config, World}
use Rattle.mn_ledger.specs.Transport.{views_after, sessions_after}
use Rattle.mn_ledger.specs.Bgp.{peerings_after}
use Rattle.mn_ledger.specs.Packets.{Packets, packets_after}
use Rattle.mn_ledger.specs.Time.{timed}

-- 1. The start: every link down, LDP switched on, no BGP session, every site attached by its first attachment

-- a set of targets in ascending order, with one more or without one
abbrev pub with_target : ℕ → Bool → List ℕ → List ℕ
with_target target true [] = target ∷ []
with_target target true (other ∷ others) = cond (nat_lt target other) (target ∷ other ∷ others) (other ∷ with_target target true others)
with_target target false others = filter (λ other. not (target == other)) others

abbrev pub ascending : List Rt → List ℕ
ascending targets = fold (λ set target. with_target target.0 true set) [] targets

-- the prefixes of the sites from this number on
abbrev pub statics_from : ℕ → List SiteDef → List SiteRoute
statics_from s [] = []
statics_from s (site ∷ sites) = map (λ prefix. record { site = s; prefix = prefix }) site.prefixes ++ statics_from (s + 1) sites

abbrev pub first_config : Network → Config
first_config topology = record {
  is_up = everywhere false;
  ldp_on = everywhere true;
  bgp_on = everywhere (everywhere false);
  imports = λ v. ascending (vrf_at topology v).«import»;
  exports = λ v. ascending (vrf_at topology v).export;
  statics = statics_from 0 topology.sites;
  attached = everywhere (Some 1);
  attaches = everywhere 0;
}

abbrev pub start : Network → World
start topology = record {
  config = first_config topology;
  views = record { changes = everywhere 0; learned = everywhere (everywhere 0) };
  sessions = record { said = everywhere (everywhere []); heard = everywhere (everywhere 0) };
  peerings = record { told = everywhere (everywhere []); heard = everywhere (everywhere 0) };
}

abbrev pub no_packets : Packets
no_packets = record { flying = everywhere []; verdicts = []; paths = []; copies = 0; delivered = None; clock = 0 }

-- 2. One step

abbrev pub is_static : ℕ → AddressBlock → SiteRoute → Bool
is_static s prefix static = (static.site == s) && same_prefix static.prefix prefix

abbrev pub config_after : Config → Step → Config
config_after config (LinkUp l) = record config { is_up = put config.is_up l.0 true }
config_after config (LinkDown l) = record config { is_up = put config.is_up l.0 false }
config_after config (LdpAdmin l on) = record config { ldp_on = put config.ldp_on l.0 on }
config_after config (BgpUp a b) = record config { bgp_on = put_pair config.bgp_on a.0 b.0 true }
config_after config (BgpDown a b) = record config { bgp_on = put_pair config.bgp_on a.0 b.0 false }
config_after config (AddRoute s prefix) = record config { statics = config.statics ++ record { site = s.0; prefix = prefix } ∷ [] }
config_after config (DelRoute s prefix) = record config { statics = filter (λ static. not (is_static s.0 prefix static)) config.statics }
config_after config (Import v on target) = record config { imports = put config.imports v.0 (with_target target.0 on (config.imports v.0)) }
config_after config (Export v on target) = record config { exports = put config.exports v.0 (with_target target.0 on (config.exports v.0)) }
config_after config (Attach s) =
    record config { attached = put config.attached s.0 (Some (config.attaches s.0 + 2)); attaches = put config.attaches s.0 (config.attaches s.0 + 1) }
config_after config (Detach s) = record config { attached = put config.attached s.0 None }
config_after config _ = config

abbrev pub after : Network → World → Step → World
after topology world step =
    let config : Config = config_after world.config step in
    record {
      config = config;
      views = views_after world.views step;
      sessions = sessions_after topology world.config world.views config (views_after world.views step) world.sessions step;
      peerings = peerings_after topology world.config config world.peerings step;
    }

-- 3. A journal

abbrev pub world_from : Network → World → List JournalEntry → World
world_from topology world [] = world
world_from topology world (entry ∷ entries) = world_from topology (after topology world entry.step) entries

abbrev pub world_of : Network → List JournalEntry → World
world_of topology entries = world_from topology (start topology) entries

-- an injection takes the next of the packets' bytes
abbrev pub injects : Step → Bool
injects (Inject s number) = true
injects _ = false

abbrev pub next_of : List (List ℕ) → List ℕ
next_of [] = []
next_of (bytes ∷ rest) = bytes

abbrev pub but_next : List (List ℕ) → List (List ℕ)
but_next [] = []
but_next (bytes ∷ rest) = rest

abbrev pub left_by : Step → List (List ℕ) → List (List ℕ)
left_by step inputs = cond (injects step) (but_next inputs) inputs

-- the packets after an entry, in the world that its step makes: time goes on first
abbrev pub packets_by : Network → World → Packets → JournalEntry → List ℕ → Packets
packets_by topology world packets entry bytes = packets_after topology world (timed topology entry packets) entry.step bytes

-- the packets after these entries, with the bytes of each injection in order
abbrev pub packets_from : Network → World → Packets → List JournalEntry → List (List ℕ) → Packets
packets_from topology world packets [] inputs = packets
packets_from topology world packets (entry ∷ entries) inputs =
    let world_then : World = after topology world entry.step in
    packets_from topology world_then (packets_by topology world_then packets entry (next_of inputs)) entries (left_by entry.step inputs)

abbrev pub packets_of : Network → List JournalEntry → List (List ℕ) → Packets
packets_of topology entries inputs = packets_from topology (start topology) no_packets entries inputs
