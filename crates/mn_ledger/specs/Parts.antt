-- Which part of the world a step may change, and what the last step that names a thing decides.
use Rattle.std.specs.Prelude.{◌≡◌, ℕ, ◌+◌, ◌==◌, Bool, true, false, cond, not, if◌then◌else◌, List, [], ◌∷◌, Option, Some, None, unwrap_or, is_some}
use Rattle.std.specs.List.{list_any}
use Rattle.mn_topo.specs.Network.{Network}
use Rattle.mn_topo.specs.declared.steps.Step.{Step}
use Rattle.mn_topo.specs.declared.steps.Step.TheVariants.{LinkUp, LinkDown, Learn, LdpAdmin, BgpUp, BgpDown, AddRoute, DelRoute, Import}
use Rattle.mn_topo.specs.declared.steps.Step.TheVariants.{Export, Attach, Detach, Inject, Carry, Lose}
use Rattle.mn_topo.specs.declared.steps.JournalEntry.{JournalEntry}
use Rattle.mn_topo.specs.Prefix.{AddressBlock}
use Rattle.mn_ledger.specs.World.{World}
use Rattle.mn_ledger.specs.Packets.{Packets, packets_after, before_step}
use Rattle.mn_ledger.specs.Transport.{is_transport, known, usable}
use Rattle.mn_ledger.specs.Exports.{has_target, exports_of}
use Rattle.mn_ledger.specs.Bgp.{is_routing}
use Rattle.mn_ledger.specs.Held.{held}
use Rattle.mn_ledger.specs.Refusal.{takes_out}
use Rattle.mn_ledger.specs.Ledger.{after, world_of, first_config, is_static}

-- the steps that configure: they send no packet, take nothing out of flight, and let no time go by
abbrev pub is_configuring : Step → Bool
is_configuring (Inject s number) = false
is_configuring step = not (takes_out step)

-- the steps that change or learn of a link
abbrev pub is_viewing : Step → Bool
is_viewing (LinkUp l) = true
is_viewing (LinkDown l) = true
is_viewing (Learn node l) = true
is_viewing _ = false

-- the steps that touch packets
abbrev pub is_moving : Step → Bool
is_moving (LinkDown l) = true
is_moving (Inject s number) = true
is_moving (Carry l dir place) = true
is_moving (Lose l dir place) = true
is_moving _ = false

-- a step that isn't of a part leaves it as it was; and where parts say something together, that too: what a node knows and where it
-- can send change only by steps of links and LDP, what an edge exports and a VRF holds only by steps of routes and BGP
pub record KeepsOtherParts (topology : Network) (world : World) (packets : Packets) (step : Step) (bytes : List ℕ) : Type 0 where
  pub configured : is_configuring step ≡ false → (after topology world step).config ≡ world.config
  pub viewed : is_viewing step ≡ false → (after topology world step).views ≡ world.views
  pub said : is_transport step ≡ false → (after topology world step).sessions ≡ world.sessions
  pub told : is_routing step ≡ false → (after topology world step).peerings ≡ world.peerings
  pub moved : is_moving step ≡ false → packets_after topology (after topology world step) packets step bytes ≡ before_step packets
  pub knows : is_transport step ≡ false → (node : ℕ) → known topology (after topology world step) node ≡ known topology world node
  pub sends : is_transport step ≡ false → (node fec : ℕ)
      → usable topology (after topology world step).config (after topology world step).views
      (after topology world step).sessions node fec ≡ usable topology world.config world.views world.sessions node fec
  pub exports : is_routing step ≡ false → (edge : ℕ) → exports_of topology (after topology world step).config edge ≡ exports_of topology world.config edge
  pub holds : is_routing step ≡ false →
      (edge v : ℕ) →
      held topology (after topology world step).config (after topology world step).peerings edge v ≡ held topology world.config world.peerings edge v

-- what the last step that says anything says
abbrev pub later : {A : Type 0} → Option A → Option A → Option A
later (Some value) earlier = Some value
later None earlier = earlier

abbrev pub last_said : {A : Type 0} → (Step → Option A) → List JournalEntry → Option A
last_said says [] = None
last_said says (entry ∷ entries) = later (last_said says entries) (says entry.step)

-- what a step makes of a link, a switch, a session, a target of a set, a static and a site
abbrev pub makes_up : ℕ → Step → Option Bool
makes_up l (LinkUp link) = cond (l == link.0) (Some true) None
makes_up l (LinkDown link) = cond (l == link.0) (Some false) None
makes_up l _ = None

abbrev pub switches : ℕ → Step → Option Bool
switches l (LdpAdmin link on) = cond (l == link.0) (Some on) None
switches l _ = None

abbrev pub starts : ℕ → ℕ → Step → Option Bool
starts a b (BgpUp one other) = cond (a == one.0) (cond (b == other.0) (Some true) None) None
starts a b (BgpDown one other) = cond (a == one.0) (cond (b == other.0) (Some false) None) None
starts a b _ = None

-- how often a step does a thing, over all entries
abbrev pub times : (Step → Bool) → List JournalEntry → ℕ
times does [] = 0
times does (entry ∷ entries) = (if does entry.step then 1 else 0) + times does entries

abbrev pub turns : ℕ → Step → Bool
turns l (LinkUp link) = l == link.0
turns l (LinkDown link) = l == link.0
turns l _ = false

abbrev pub teaches : ℕ → ℕ → Step → Bool
teaches node l (Learn learner link) = if node == learner.0 then l == link.0 else false
teaches node l _ = false

abbrev pub attaches_site : ℕ → Step → Bool
attaches_site s (Attach site) = s == site.0
attaches_site s _ = false

-- whether a site is attached
abbrev pub makes_attached : ℕ → Step → Option Bool
makes_attached s (Attach site) = cond (s == site.0) (Some true) None
makes_attached s (Detach site) = cond (s == site.0) (Some false) None
makes_attached s _ = None

-- whether a step gives a set a target or takes it away
abbrev pub imports_target : ℕ → ℕ → Step → Option Bool
imports_target v target (Import vrf on changed) = cond (v == vrf.0) (cond (target == changed.0) (Some on) None) None
imports_target v target _ = None

abbrev pub exports_target : ℕ → ℕ → Step → Option Bool
exports_target v target (Export vrf on changed) = cond (v == vrf.0) (cond (target == changed.0) (Some on) None) None
exports_target v target _ = None

-- whether a step gives a site a prefix or takes it away
abbrev pub routes_prefix : ℕ → AddressBlock → Step → Option Bool
routes_prefix s prefix (AddRoute site added) = cond (is_static s prefix (record { site = site.0; prefix = added })) (Some true) None
routes_prefix s prefix (DelRoute site removed) = cond (is_static s prefix (record { site = site.0; prefix = removed })) (Some false) None
routes_prefix s prefix _ = None

-- each part of the configuration is what the last step that named it made it, or else the start's; changes, learned changes and
-- attachments are counted, of a detached site too, and the number of a present attachment is one more than the attachments so far
pub record IsByLastSteps (topology : Network) (entries : List JournalEntry) : Type 0 where
  pub links : (l : ℕ) → (world_of topology entries).config.is_up l ≡ unwrap_or (last_said (makes_up l) entries) false
  pub switches_are : (l : ℕ) → (world_of topology entries).config.ldp_on l ≡ unwrap_or (last_said (switches l) entries) true
  pub sessions : (a b : ℕ) → (world_of topology entries).config.bgp_on a b ≡ unwrap_or (last_said (starts a b) entries) false
  pub imports : (v target : ℕ) →
      has_target ((world_of topology entries).config.imports v) target ≡ unwrap_or (last_said (imports_target v target) entries)
      (has_target ((first_config topology).imports v) target)
  pub exports : (v target : ℕ) →
      has_target ((world_of topology entries).config.exports v) target ≡ unwrap_or (last_said (exports_target v target) entries)
      (has_target ((first_config topology).exports v) target)
  pub statics : (s : ℕ) (prefix : AddressBlock) →
      list_any (is_static s prefix) (world_of topology entries).config.statics ≡ unwrap_or (last_said (routes_prefix s prefix) entries)
      (list_any (is_static s prefix) (first_config topology).statics)
  pub attached : (s : ℕ) → is_some ((world_of topology entries).config.attached s) ≡ unwrap_or (last_said (makes_attached s) entries) true
  pub attachment : (s n : ℕ) → (world_of topology entries).config.attached s ≡ Some n → n ≡ 1 + times (attaches_site s) entries
  pub attaches : (s : ℕ) → (world_of topology entries).config.attaches s ≡ times (attaches_site s) entries
  pub changes : (l : ℕ) → (world_of topology entries).views.changes l ≡ times (turns l) entries
  pub learned : (node l : ℕ) → (world_of topology entries).views.learned node l ≡ times (teaches node l) entries
