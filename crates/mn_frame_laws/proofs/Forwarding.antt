-- The frame of a packet, forwarded at a node whose table stands for the world.
use Rattle.std.proofs.Common.{ℕ, ◌≡◌, ◌≢◌, ◌+◌, ◌-◌, ◌<◌, ◌≤◌, Bool, true, false, List, [], ◌∷◌, length, refl, arith, sym, ◌∙◌, ap, subst, Some, None}
use Rattle.std.proofs.Common.{eqb-true, inl, inr, take}
use Rattle.std.specs.Prelude.{◌==◌, ◌&&◌, nat_le, Option, IsTrue, if◌then◌else◌}
use Rattle.std.specs.List.{slice_get, Contains}
use Rattle.std.proofs.lemmas.List.{take_all}
use Rattle.std.proofs.lemmas.Bool.Decides.{nat_tests, eqb_tells, leb_tells}
use Rattle.mn_drops.specs.declared.drops.Rule.TheVariants as rule
use Rattle.mn_wiring.specs.declared.links.Dir.{Dir}
use Rattle.mn_base.specs.declared.numbers.NodeNo.{NodeNo}
use Rattle.mn_ipv4.specs.Header.{good, aged, with_ttl, ttl_of, total_length}
use Rattle.mn_stack.specs.Grammar.{is_packet}
use Rattle.mn_stack.specs.declared.message.Entry.{Entry}
use Rattle.mn_stack.specs.Labelled.{Labelled, swapped, popped, with_top_ttl}
use Rattle.mn_lfib.specs.declared.answer.Forwarded.{Forwarded}
use Rattle.mn_lfib.specs.declared.answer.Forwarded.TheVariants.{Next}
use Rattle.mn_lfib.specs.declared.answer.Use.{Use}
use Rattle.mn_lfib.specs.declared.answer.Use.TheVariants as label_of
use Rattle.mn_lfib.specs.Uses.{use_of, fec_use}
use Rattle.mn_lfib.specs.Forwarding.{by_use, forwarded, pop}
use Rattle.mn_lfib.proofs.Cases.{expired, alive}
use Rattle.mn_topo.specs.Network.{Network, Leads}
use Rattle.mn_topo.specs.Links.{are_joined}
use Rattle.mn_topo.specs.Lawful.{IsLawful}
use Rattle.mn_ledger.specs.World.{World}
use Rattle.mn_ledger.specs.Transport.{usable}
use Rattle.mn_ledger.specs.Packets.{Token, Packets, drop_at, is_attachment, leave, arrive, hop_over, away_from, stamped}
use Rattle.mn_base.proofs.Bools.{other_numbers}
use Rattle.mn_frame_laws.specs.Given.{HasLabel, fec_of, Labelling, label_for, label_at, label_in, attachment_of}
use Rattle.mn_frame_laws.specs.Frames.{entry, inner, IsFrameOf, IsSound}
use Rattle.mn_frame_laws.specs.Tables.{AreMapped, TableStands, next_over, next_entry, site_entry}
use Rattle.mn_frame_laws.specs.Arrivals.{sent, hopped, Becomes, IsForwardedAsTold}
use Rattle.mn_frame_laws.proofs.Links.{hop_leads, only_link, leads_are_joined}

pub arm_true : {A : Type 0} (b : Bool) (x y : A) → b ≡ true → (elim b as (λ _. A) [ true ↦ x | false ↦ y ]) ≡ x
arm_true true x y h = refl
arm_true false x y h = absurd (let no : false ≡ true → ⊥ = (λ e. cc) in no h)

pub arm_false : {A : Type 0} (b : Bool) (x y : A) → b ≡ false → (elim b as (λ _. A) [ true ↦ x | false ↦ y ]) ≡ y
arm_false false x y h = refl
arm_false true x y h = absurd (let no : true ≡ false → ⊥ = (λ e. cc) in no h)

-- 1. The packet that is delivered

-- a packet ends at its total length
pub whole_packet : (bytes : List ℕ) → IsTrue (is_packet bytes) → length bytes ≡ total_length bytes
whole_packet bytes h = eqb-true _ _ (right (good bytes) _ h)
  where
    right : (a b : Bool) → IsTrue (a && b) → b ≡ true
    right true true h = refl
    right true false h = absurd (let no : false ≡ true → ⊥ = (λ e. cc) in no h)
    right false b h = absurd (let no : false ≡ true → ⊥ = (λ e. cc) in no h)

-- the packet with its TTL is the packet aged by the hops
pub aged_to : (bytes : List ℕ) (ttl : ℕ) → IsTrue (is_packet bytes) → ttl ≤ ttl_of bytes → with_ttl bytes ttl ≡ aged bytes (ttl_of bytes - ttl)
unfolding aged
aged_to bytes ttl good_one low =
    let whole : length bytes ≡ total_length bytes = whole_packet bytes good_one in
    let cut : take (total_length bytes) bytes ≡ bytes = take_all (total_length bytes) bytes (omega (arith, whole)) in
    let same : ttl_of bytes - (ttl_of bytes - ttl) ≡ ttl = omega (arith, low) in
    rw (cut, same) refl

-- 2. The cases of an arrival in the ledger

arrives_expired : (t : Network) (w : World) (k : Packets) (x : Token) (y : ℕ) → nat_le x.ttl 1 ≡ true → arrive t w k x y ≡ drop_at k x.packet rule.TtlExpired y
arrives_expired t w k x y h = arm_true (nat_le x.ttl 1) _ _ h

arrives_home : (t : Network) (w : World) (k : Packets) (x : Token) (y : ℕ) → nat_le x.ttl 1 ≡ false → (y == x.edge) ≡ true → arrive t w k x y ≡ leave w k x y
arrives_home t w k x y h e = arm_false (nat_le x.ttl 1) _ _ h ∙ arm_true (y == x.edge) _ _ e

arrives_on_way : (t : Network) (w : World) (k : Packets) (x : Token) (y : ℕ) → nat_le x.ttl 1 ≡ false → (y == x.edge) ≡ false →
    arrive t w k x y ≡ hop_over t k (stamped k (hopped x)) y rule.NoEntry (usable t w.config w.views w.sessions y x.edge)
arrives_on_way t w k x y h e = arm_false (nat_le x.ttl 1) _ _ h ∙ arm_false (y == x.edge) _ _ e

-- 3. The frame's cases

-- with the pair of answer and frame in one
abbrev Turns : Network → Labelling → Packets → Token → ℕ → Packets → Forwarded × Labelled → Type 0
Turns t g k x y later both = Becomes t g k x y later both.0 both.1

-- whatever the top entry is, one hop left is too few
turns_expired : (t : Network) (g : Labelling) (w : World) (k : Packets) (x : Token) (y : ℕ) (uses : List (ℕ × Use)) (frame : Labelled) (top : Entry) →
    slice_get frame.entries 0 ≡ Some top → top.ttl ≡ x.ttl → nat_le x.ttl 1 ≡ true → Turns t g k x y (arrive t w k x y) (forwarded uses frame)
turns_expired t g w k x y uses frame top is_top same h =
    let low : top.ttl ≤ 1 = grind (arith, nat_tests, same, h) in
    subst (λ p. Turns t g k x y (arrive t w k x y) p) (sym (expired uses frame top is_top low)) (arrives_expired t w k x y h)

-- at its edge

turns_home : (t : Network) (g : Labelling) (w : World) (k : Packets) (x : Token) (y : ℕ) (frame : Labelled) (b : Bool) →
    IsSound t g x → frame.entries ≡ inner g x x.ttl ∷ [] → frame.packet ≡ x.bytes → is_attachment (w.config.attached x.site) x.attachment ≡ b →
    Turns t g k x y (leave w k x y) (by_use (Some (if b then label_of.Site (record { 0 = x.site }) else label_of.Ended)) true (x.ttl - 1) frame)
turns_home t g w k x y frame true sound stack packet is = (
  arm_true (is_attachment (w.config.attached x.site) x.attachment) _ _ is,
  rw stack refl,
  ap (λ p. with_ttl p (x.ttl - 1)) packet ∙ aged_to x.bytes (x.ttl - 1) sound.packet (omega (arith, sound.within, sound.pushed)),
)
turns_home t g w k x y frame false sound stack packet is = arm_false (is_attachment (w.config.attached x.site) x.attachment) _ _ is

-- at another node

-- the label of a node for a FEC that isn't its own isn't implicit null
not_null : (label : ℕ) → 16 ≤ label → (label == 3) ≡ false
not_null label low = grind (arith, nat_tests, low)

pops : (frame : Labelled) (next : NodeNo) (label ttl : ℕ) → label ≡ 3 →
    by_use (Some (label_of.Fec next label)) false ttl frame ≡ (Next next, record (pop frame) { entries = with_top_ttl (popped frame.entries) ttl })
pops frame next label ttl h = rw h refl

swaps : (frame : Labelled) (next : NodeNo) (label ttl : ℕ) → (label == 3) ≡ false →
    by_use (Some (label_of.Fec next label)) false ttl frame ≡ (Next next, record frame { entries = swapped frame.entries label ttl })
swaps frame next label ttl h = rw h refl

-- what is sent to the next hop is its frame, by whether that is the edge
abbrev GoesTo : Labelling → Token → Labelled → ℕ → Forwarded × Labelled → Type 0
GoesTo g x frame hop both = (both.0 ≡ Next (record { 0 = hop })) × IsFrameOf g (hopped x) hop both.1

over_hop : (t : Network) (g : Labelling) (x : Token) (frame : Labelled) (label : ℕ) (hop : ℕ) (b : Bool) →
    (hop ≢ x.edge → HasLabel (g hop) (fec_of x.edge)) → (hop == x.edge) ≡ b → frame.entries ≡ entry label false x.ttl ∷ inner g x x.pushed ∷ [] →
    frame.packet ≡ x.bytes →
    GoesTo g x frame hop (by_use (Some (label_of.Fec (record { 0 = hop }) (label_for g hop x.edge))) false (x.ttl - 1) frame)
over_hop t g x frame label hop true had is stack packet =
    let null : label_for g hop x.edge ≡ 3 = rw is refl in
    let goes : GoesTo g x frame hop (Next (record { 0 = hop }), record (pop frame) { entries = with_top_ttl (popped frame.entries) (x.ttl - 1) }) =
    (refl, record { stack = rw (stack, is) refl; packet = packet; outer = had }) in
    subst (GoesTo g x frame hop) (sym (pops frame (record { 0 = hop }) (label_for g hop x.edge) (x.ttl - 1) null)) goes
over_hop t g x frame label hop false had is stack packet =
    let other : (label_for g hop x.edge == 3) ≡ false = rw is (not_null (label_in (g hop) (fec_of x.edge)) (had (other_numbers hop x.edge is))) in
    let goes : GoesTo g x frame hop (Next (record { 0 = hop }), record frame { entries = swapped frame.entries (label_for g hop x.edge) (x.ttl - 1) }) =
    (refl, record { stack = rw (stack, is) refl; packet = packet; outer = had }) in
    subst (GoesTo g x frame hop) (sym (swaps frame (record { 0 = hop }) (label_for g hop x.edge) (x.ttl - 1) other)) goes

-- an answer of a next hop is what becomes of the packet where it is sent over the link to it
becomes_next : (t : Network) (g : Labelling) (k : Packets) (x : Token) (y : ℕ) (later : Packets) (frame : Labelled) (hop : ℕ) (both : Forwarded × Labelled) →
    ((l : ℕ) (dir : Dir) → Leads t y hop l dir → later ≡ sent k (stamped k (hopped x)) l dir) → are_joined t.links y hop ≡ true → GoesTo g x frame hop both →
    Turns t g k x y later both
becomes_next t g k x y later frame hop both links joined goes =
    let P : Forwarded → Type 0 = λ f. Becomes t g k x y later f both.1 in
    let whole : P (Next (record { 0 = hop })) = (links, goes.1, joined) in
    subst P (sym goes.0) whole

turns_on_way : (t : Network) (g : Labelling) (w : World) (k : Packets) (x : Token) (y : ℕ) (frame : Labelled) (found : Option (ℕ × ℕ)) →
    IsLawful t → y < length t.loopbacks → x.edge < length t.loopbacks → AreMapped t g w → y ≢ x.edge →
    frame.entries ≡ entry (label_for g y x.edge) false x.ttl ∷ inner g x x.pushed ∷ [] → frame.packet ≡ x.bytes →
    usable t w.config w.views w.sessions y x.edge ≡ found →
    Turns t g k x y (hop_over t k (stamped k (hopped x)) y rule.NoEntry found) (by_use (fec_use (next_over g x.edge found)) false (x.ttl - 1) frame)
turns_on_way t g w k x y frame None lawful h inside mapped apart stack packet is = refl
turns_on_way t g w k x y frame (Some hop) lawful h inside mapped apart stack packet is =
    becomes_next t g k x y (hop_over t k (stamped k (hopped x)) y rule.NoEntry (Some hop)) frame hop.0 _ links
    (leads_are_joined t y hop.0 hop.1 (away_from t hop.1 y) (hop_leads t w y x.edge hop lawful h apart is))
    (over_hop t g x frame (label_for g y x.edge) hop.0 (hop.0 == x.edge) (mapped y x.edge hop h inside apart is) refl stack packet)
  where
    links : (l : ℕ) (dir : Dir) → Leads t y hop.0 l dir → hop_over t k (stamped k (hopped x)) y rule.NoEntry (Some hop) ≡ sent k (stamped k (hopped x)) l dir
    links l dir leads =
        let one = only_link t y hop.0 l hop.1 dir (away_from t hop.1 y) lawful leads (hop_leads t w y x.edge hop lawful h apart is) in
        rw (one.1, one.0) refl

-- 4. All cases

turns_alive_home : (t : Network) (g : Labelling) (w : World) (k : Packets) (x : Token) (y : ℕ) (uses : List (ℕ × Use)) (frame : Labelled) →
    TableStands t g w y uses → IsSound t g x → IsFrameOf g x y frame → nat_le x.ttl 1 ≡ false → (y == x.edge) ≡ true → y ≡ x.edge →
    Turns t g k x y (arrive t w k x y) (forwarded uses frame)
turns_alive_home t g w k x y uses frame table sound is h e same =
    let stack : frame.entries ≡ inner g x x.ttl ∷ [] =
    is.stack ∙ ap (λ b. if b then inner g x x.ttl ∷ [] else entry (label_for g y x.edge) false x.ttl ∷ inner g x x.pushed ∷ []) e in
    let live : 1 < x.ttl = grind (arith, nat_tests, h) in
    let used : use_of uses (label_at g x.edge x.site x.attachment) ≡ Some (site_entry w x.site x.attachment) =
    subst (λ n. use_of uses (label_in (g n) (attachment_of x.site x.attachment)) ≡ Some (site_entry w x.site x.attachment)) same
    (table.sites x.site x.attachment (subst (λ n. HasLabel (g n) (attachment_of x.site x.attachment)) (sym same) sound.labelled)) in
    subst (λ p. Turns t g k x y p (forwarded uses frame)) (sym (arrives_home t w k x y h e))
    (subst (λ p. Turns t g k x y (leave w k x y) p) (sym (alive uses frame (inner g x x.ttl) _ (rw stack refl) live used))
    (turns_home t g w k x y frame (is_attachment (w.config.attached x.site) x.attachment) sound stack is.packet refl))

turns_alive_on_way : (t : Network) (g : Labelling) (w : World) (k : Packets) (x : Token) (y : ℕ) (uses : List (ℕ × Use)) (frame : Labelled) →
    IsLawful t → y < length t.loopbacks → AreMapped t g w → TableStands t g w y uses → IsSound t g x → IsFrameOf g x y frame → nat_le x.ttl 1 ≡ false →
    (y == x.edge) ≡ false → y ≢ x.edge →
    Turns t g k x y (arrive t w k x y) (forwarded uses frame)
turns_alive_on_way t g w k x y uses frame lawful within mapped table sound is h e apart =
    let stack : frame.entries ≡ entry (label_for g y x.edge) false x.ttl ∷ inner g x x.pushed ∷ [] =
    is.stack ∙ ap (λ b. if b then inner g x x.ttl ∷ [] else entry (label_for g y x.edge) false x.ttl ∷ inner g x x.pushed ∷ []) e in
    let live : 1 < x.ttl = grind (arith, nat_tests, h) in
    let used : use_of uses (label_for g y x.edge) ≡ fec_use (next_entry t g w y x.edge) =
    rw e (table.fecs x.edge sound.node (λ q. apart (sym q)) (is.outer apart)) in
    subst (λ p. Turns t g k x y p (forwarded uses frame)) (sym (arrives_on_way t w k x y h e))
    (subst (λ p. Turns t g k x y (hop_over t k (stamped k (hopped x)) y rule.NoEntry (usable t w.config w.views w.sessions y x.edge)) p)
    (sym (alive uses frame (entry (label_for g y x.edge) false x.ttl) _ (rw stack refl) live used))
    (turns_on_way t g w k x y frame _ lawful within sound.node mapped apart stack is.packet refl))

-- the top entry has the packet's TTL
pub top_of : (g : Labelling) (x : Token) (y : ℕ) (frame : Labelled) → IsFrameOf g x y frame →
    (top : Entry) × (slice_get frame.entries 0 ≡ Some top) × (top.ttl ≡ x.ttl)
top_of g x y frame is = by (y == x.edge) is.stack
  where
    by : (b : Bool) → frame.entries ≡ (if b then inner g x x.ttl ∷ [] else entry (label_for g y x.edge) false x.ttl ∷ inner g x x.pushed ∷ []) →
        (top : Entry) × (slice_get frame.entries 0 ≡ Some top) × (top.ttl ≡ x.ttl)
    by true e = (inner g x x.ttl, rw e refl, refl)
    by false e = (entry (label_for g y x.edge) false x.ttl, rw e refl, refl)

pub forwarded_as_told : IsForwardedAsTold
forwarded_as_told t g w k x y uses frame lawful within mapped table sound is =
    elim (leb_tells x.ttl 1) [
      | inl low ↦ (let top = top_of g x y frame is in turns_expired t g w k x y uses frame top.0 top.1 top.2 low.0)
      | inr high ↦
          elim (eqb_tells y x.edge) [
            | inl home ↦ turns_alive_home t g w k x y uses frame table sound is high.0 home.0 home.1
            | inr away ↦ turns_alive_on_way t g w k x y uses frame lawful within mapped table sound is high.0 away.0 away.1
          ]
    ]
