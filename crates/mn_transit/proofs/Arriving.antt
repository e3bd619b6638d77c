-- What the packets in transit stand for once a node has forwarded the frame of one of them.
use Rattle.std.proofs.Common.{ℕ, ◌≡◌, ◌+◌, ◌-◌, ◌<◌, ◌≤◌, ◌∷◌, ◌++◌, [], true, List, length, refl, arith, sym, ◌∙◌, ap, subst, Some}
use Rattle.std.specs.Prelude.{slice_get, slice_set, Result, Ok, Err, OnOk, IsOk}
use Rattle.mn_base.proofs.Bools.{no}
use Rattle.mn_drops.specs.declared.drops.Rule.{Rule}
use Rattle.mn_wiring.specs.declared.links.Dir.{Dir}
use Rattle.mn_base.specs.declared.numbers.NodeNo.{NodeNo}
use Rattle.mn_base.specs.declared.numbers.SiteNo.{SiteNo}
use Rattle.mn_base.specs.declared.numbers.LinkNo.{LinkNo}
use Rattle.mn_wiring.specs.Wiring.{receiver}
use Rattle.mn_ipv4.specs.Header.{aged, ttl_of}
use Rattle.mn_stack.specs.declared.message.Entry.{Entry}
use Rattle.mn_stack.specs.Labelled.{Labelled}
use Rattle.mn_lfib.specs.declared.answer.Forwarded.{Forwarded}
use Rattle.mn_lfib.specs.declared.answer.Forwarded.TheVariants.{Next, Site, Drop}
use Rattle.mn_lfib.specs.declared.answer.Use.{Use}
use Rattle.mn_lfib.specs.Forwarding.{forwarded}
use Rattle.mn_topo.specs.Network.{Network, wiring_of, Leads}
use Rattle.mn_topo.specs.Links.{are_joined}
use Rattle.mn_topo.specs.Lawful.{IsLawful}
use Rattle.mn_ledger.specs.declared.verdict.Verdict.TheVariants.{Delivered, Dropped, Flying}
use Rattle.mn_ledger.specs.World.{World}
use Rattle.mn_ledger.specs.Packets.{Token, Packets, channel, arrive, drop_at, deliver, stamped}
use Rattle.mn_frame_laws.specs.Given.{Labelling}
use Rattle.mn_frame_laws.specs.Frames.{IsFrameOf, IsSound}
use Rattle.mn_frame_laws.specs.Tables.{AreMapped, TableStands}
use Rattle.mn_frame_laws.specs.Arrivals.{sent, hopped, Becomes}
use Rattle.mn_frame_laws.proofs.Forwarding.{forwarded_as_told, top_of}
use Rattle.mn_transit.specs.declared.flown.Flown.{Flown}
use Rattle.mn_transit.specs.Moving.{Moving}
use Rattle.mn_transit.specs.Stands.{IsFlown, StandsFor}
use Rattle.mn_transit.proofs.Standing.{stands_judged, stands_sent}

-- what becomes of a packet that comes to a node, by how its frame is forwarded there
becomes : (t : Network) (g : Labelling) (w : World) (k : Packets) (token : Token) (y : ℕ) (uses : List (ℕ × Use)) (flown : Flown)
    (answer : Forwarded) (after : Labelled) →
    IsLawful t → y < length t.loopbacks → (answer, after) ≡ forwarded uses flown.frame → AreMapped t g w → TableStands t g w y uses →
    IsFlown t g y flown token → Becomes t g k token y (arrive t w k token y) answer after
becomes t g w k token y uses flown answer after lawful there forwards mapped table flies =
    subst (λ (p : Forwarded × Labelled). Becomes t g k token y (arrive t w k token y) p.0 p.1) (sym forwards)
    (forwarded_as_told t g w k token y uses flown.frame lawful there mapped table flies.sound flies.frame)

pub stands_dropped : (t : Network) (g : Labelling) (w : World) (m new : Moving) (k : Packets) (token : Token) (y : NodeNo) (uses : List (ℕ × Use))
    (flown : Flown) (cause : Rule) (after : Labelled) →
    IsLawful t → y.0 < length t.loopbacks →
    (Drop cause, after) ≡ forwarded uses flown.frame → new ≡ record m { verdicts = slice_set m.verdicts flown.packet (Dropped cause y) } →
    AreMapped t g w → TableStands t g w y.0 uses → StandsFor t g m k → IsFlown t g y.0 flown token → StandsFor t g new (arrive t w k token y.0)
stands_dropped t g w m new k token y uses flown cause after lawful there forwards is mapped table stands flies =
    let told : arrive t w k token y.0 ≡ drop_at k token.packet cause y.0 =
    becomes t g w k token y.0 uses flown (Drop cause) after lawful there forwards mapped table flies in
    subst (λ n. StandsFor t g n (arrive t w k token y.0)) (sym is)
    (subst (λ p. StandsFor t g (record m { verdicts = slice_set m.verdicts flown.packet (Dropped cause y) }) p) (sym told)
    (subst (λ p. StandsFor t g (record m { verdicts = slice_set m.verdicts p (Dropped cause y) }) (drop_at k token.packet cause y.0)) (sym flies.packet)
    (stands_judged t g m k token.packet (Dropped cause y) stands)))

-- a delivery in both
pub delivers : (t : Network) (g : Labelling) (m : Moving) (k : Packets) (packet site ttl : ℕ) (bytes : List ℕ) → StandsFor t g m k →
    StandsFor t g (record m {
      verdicts = slice_set m.verdicts packet (Delivered ttl (record { 0 = site }) (m.copies + 1));
      copies =
          m.copies + 1;
      delivered = Some (aged bytes (ttl_of bytes - ttl));
    }) (deliver k packet site ttl bytes)
delivers t g m k packet site ttl bytes stands = record {
  verdicts =
      ap (λ vs. slice_set vs packet (Delivered ttl (record { 0 = site }) (m.copies + 1))) stands.verdicts
      ∙ ap (λ n. slice_set k.verdicts packet (Delivered ttl (record { 0 = site }) (n + 1))) stands.copies;
  paths = stands.paths;
  copies = ap (λ n. n + 1) stands.copies;
  delivered = refl;
  frames = stands.frames;
}

pub stands_delivered : (t : Network) (g : Labelling) (w : World) (m new : Moving) (k : Packets) (token : Token) (y : ℕ) (uses : List (ℕ × Use))
    (flown : Flown) (site : SiteNo) (after : Labelled) (top : Entry) (ttl : ℕ) →
    IsLawful t → y < length t.loopbacks → (Site site, after) ≡ forwarded uses flown.frame → slice_get flown.frame.entries 0 ≡ Some top → ttl ≡ top.ttl - 1 →
    new ≡ record m { verdicts = slice_set m.verdicts flown.packet (Delivered ttl site (m.copies + 1)); copies = m.copies + 1; delivered = Some after.packet } →
    AreMapped t g w → TableStands t g w y uses → StandsFor t g m k → IsFlown t g y flown token → StandsFor t g new (arrive t w k token y)
stands_delivered t g w m new k token y uses flown site after top ttl lawful there forwards is_top lower is mapped table stands flies =
    let told =
    becomes t g w k token y uses flown (Site site) after lawful there forwards mapped table flies in
    let first = top_of g token y flown.frame flies.frame in
    let same : first.0 ≡ top = (let e : Some first.0 ≡ Some top = sym first.1 ∙ is_top in cc) in
    let level : ttl ≡ token.ttl - 1 = lower ∙ ap (λ (e : Entry). e.ttl - 1) (sym same) ∙ ap (λ n. n - 1) first.2 in
    let whole : new ≡ record m {
      verdicts = slice_set m.verdicts token.packet (Delivered (token.ttl - 1) site (m.copies + 1));
      copies =
          m.copies + 1;
      delivered = Some (aged token.bytes (ttl_of token.bytes - (token.ttl - 1)));
    } =
    is ∙ ap (λ n. record m {
      verdicts = slice_set m.verdicts flown.packet (Delivered n site (m.copies + 1));
      copies = m.copies + 1;
      delivered =
          Some after.packet;
    }) level
    ∙ ap (λ n. record m {
      verdicts = slice_set m.verdicts n (Delivered (token.ttl - 1) site (m.copies + 1));
      copies = m.copies + 1;
      delivered =
          Some after.packet;
    }) flies.packet
    ∙ ap (λ b. record m {
      verdicts = slice_set m.verdicts token.packet (Delivered (token.ttl - 1) site (m.copies + 1));
      copies = m.copies + 1;
      delivered =
          Some b;
    }) told.2 in
    subst (λ n. StandsFor t g n (arrive t w k token y)) (sym whole)
    (subst (λ p. StandsFor t g (record m {
      verdicts = slice_set m.verdicts token.packet (Delivered (token.ttl - 1) site (m.copies + 1));
      copies =
          m.copies + 1;
      delivered = Some (aged token.bytes (ttl_of token.bytes - (token.ttl - 1)));
    }) p) (sym told.0)
    (delivers t g m k token.packet site.0 (token.ttl - 1) token.bytes stands))

-- neither hops that it has gone nor when it was sent is anything by which a packet is sound
sound_later : (t : Network) (g : Labelling) (token : Token) (ttl when : ℕ) → ttl ≤ token.pushed → IsSound t g token →
    IsSound t g (record token { ttl = ttl; sent = when })
sound_later t g token ttl when within sound = record {
  home = sound.home;
  node = sound.node;
  labelled = sound.labelled;
  within = within;
  pushed = sound.pushed;
  packet = sound.packet;
}

-- the frame of the packet with one hop less
flies_on : (t : Network) (g : Labelling) (token : Token) (y next : ℕ) (flown : Flown) (after : Labelled) → IsFlown t g y flown token →
    IsFrameOf g (hopped token) next after →
    IsFlown t g next (record { packet = flown.packet; frame = after }) (hopped token)
flies_on t g token y next flown after flies frame = record {
  packet = flies.packet;
  sound = sound_later t g token (token.ttl - 1) token.sent (omega (arith, flies.sound.within)) flies.sound;
  frame = frame;
}

-- when it is sent is nothing that its frame has
pub flown_stamped : (t : Network) (g : Labelling) (k : Packets) (to : ℕ) (flown : Flown) (token : Token) → IsFlown t g to flown token →
    IsFlown t g to flown (stamped k token)
flown_stamped t g k to flown token flies = record {
  packet = flies.packet;
  sound = sound_later t g token token.ttl k.clock flies.sound.within flies.sound;
  frame = record { stack = flies.frame.stack; packet = flies.frame.packet; outer = flies.frame.outer };
}

pub stands_hopped : (t : Network) (g : Labelling) (w : World) (m new : Moving) (k : Packets) (token : Token) (y next : NodeNo) (uses : List (ℕ × Use))
    (flown : Flown) (after : Labelled) →
    IsLawful t → y.0 < length t.loopbacks → (Next next, after) ≡ forwarded uses flown.frame →
    ((g : Labelling) (k : Packets) (token : Token) → StandsFor t g m k → IsFlown t g next.0 (record { packet = flown.packet; frame = after }) token →
    are_joined t.links y.0 next.0 ≡ true →
    (link : ℕ) × (dir : Dir) × Leads t y.0 next.0 link dir × StandsFor t g new (sent k token link dir)) →
    AreMapped t g w → TableStands t g w y.0 uses → StandsFor t g m k → IsFlown t g y.0 flown token → StandsFor t g new (arrive t w k token y.0)
stands_hopped t g w m new k token y next uses flown after lawful there forwards goes mapped table stands flies =
    let told =
    becomes t g w k token y.0 uses flown (Next next) after lawful there forwards mapped table flies in
    let flown_on : Flown = record { packet = flown.packet; frame = after } in
    let gone =
    goes g k (stamped k (hopped token)) stands
    (flown_stamped t g k next.0 flown_on (hopped token) (flies_on t g token y.0 next.0 flown after flies told.1)) told.2 in
    subst (λ p. StandsFor t g new p) (sym (told.0 gone.0 gone.1 gone.2)) gone.3

-- what is sent over the link that leads to the neighbour
pub stands_over : (t : Network) (g : Labelling) (m new : Moving) (k : Packets) (token : Token) (y next : ℕ) (link : LinkNo) (dir : Dir)
    (spare due number : ℕ) (flown : Flown) →
    Leads t y next link.0 dir →
    new ≡ record m {
      flying = m.flying ++ record { channel = channel link.0 dir; due = due; number = number; item = flown } ∷ [];
      spare = spare;
      verdicts =
          slice_set m.verdicts flown.packet (Flying link dir);
    } →
    StandsFor t g m k → IsFlown t g next flown token →
    (l : ℕ) × (d : Dir) × Leads t y next l d × StandsFor t g new (sent k token l d)
stands_over t g m new k token y next link dir spare due number flown leads is stands flies =
    let there : IsFlown t g (receiver (wiring_of t) link.0 dir) flown token = subst (λ n. IsFlown t g n flown token) (sym leads.to) flies in
    let whole : new ≡ record m {
      flying = m.flying ++ record { channel = channel link.0 dir; due = due; number = number; item = flown } ∷ [];
      spare =
          spare;
      verdicts = slice_set m.verdicts token.packet (Flying link dir);
    } =
    is ∙ ap (λ n. record m {
      flying = m.flying ++ record { channel = channel link.0 dir; due = due; number = number; item = flown } ∷ [];
      spare =
          spare;
      verdicts = slice_set m.verdicts n (Flying link dir);
    }) flies.packet in (
      link.0,
      dir,
      leads,
      subst (λ n. StandsFor t g n (sent k token link.0 dir)) (sym whole)
          (stands_sent t g m k token link.0 dir spare due number flown stands there),
    )

-- what can't fail was done
pub was_ok : {A E : Type 0} (P : Type 0) (r : Result A E) → IsOk r → OnOk r P → P
was_ok P (Ok x) h p = p
was_ok P (Err e) h p = absurd (no h)
