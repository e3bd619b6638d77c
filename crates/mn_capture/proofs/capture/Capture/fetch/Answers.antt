use Rattle.std.proofs.Common.{◌≡◌, ◌≤◌, ◌-◌, ℕ, List, length, map, drop, Some, refl, sym, ◌∙◌, ap, subst}
use Rattle.std.specs.Prelude.{slice_get, vec_len}
use Rattle.mn_edge.specs.FaultLaws.{counted_out}
use Rattle.mn_edge.specs.Files.{Files, file}
use Rattle.mn_pcap.specs.declared.message.Place.{Place}
use Rattle.mn_pcap.specs.Reading.{bytes_at, packet_of}
use Rattle.mn_capture.specs.Packets.{CaptureView}
use Rattle.mn_capture.proofs.Fetched.{at_place, bytes_fetched}
use Rattle.mn_capture.proofs.capture.Capture.fetch.Given.{Over}
use Rattle.mn_capture.proofs.capture.Capture.fetch.Goals as goal

-- the places as contracts see them
places : (g : Over) (c : goal.After-truncate g) → c.args.self.now.places ≡ c.self.inside.places.items
places g c = sym (ap (λ (v : CaptureView). v.places) c.self.view_is)

bytes_left : (g : Over) (c : goal.After-truncate g) (m : Files) (whole : List ℕ) → g.S.Shelf.files c.args.shelf.now ≡ Some m →
    file m c.args.self.now.name ≡ Some whole
    → c.truncate.new.self.items ≡ bytes_at whole c.index-place.result.now
bytes_left g c m whole is there =
    let named = c.as_str.ensures.value ∙ ap (λ (v : CaptureView). v.name) c.self.view_is in
    let size : length c.fill.new.buf ≡ vec_len c.resize.new.self = c.fill.auto.buf ∙ c.deref_mut.ensures.len in
    bytes_fetched c.index-place.result.now whole c.truncate.new.self.items c.fill.new.buf
    (drop (length c.fill.new.buf) c.resize.new.self.items) c.in_ok-count.count (vec_len c.resize.new.self)
    c.truncate.ensures.items size c.in_ok-resize.ensures.len (c.in_ok-count.ensures.content m is whole (ap (file m) named ∙ there))

pub returns-clause-captured : goal.returns-clause-captured
returns-clause-captured g c = λ m is whole there.
    let last : c.args.nth ≤ length c.self.inside.places.items = subst (λ (ps : List Place). c.args.nth ≤ length ps) (places g c) c.requires.last in
    ap (λ (ps : List Place). slice_get (map (bytes_at whole) ps) (c.args.nth - 1)) (places g c)
    ∙ at_place (bytes_at whole) c.self.inside.places.items c.args.nth c.index-place.result.now c.requires.first last c.index-place.ensures
    ∙ ap Some (sym (bytes_left g c m whole is there))

pub returns-clause-packet : goal.returns-clause-packet
returns-clause-packet g c = λ m is whole there.
    let last : c.args.nth ≤ length c.self.inside.places.items = subst (λ (ps : List Place). c.args.nth ≤ length ps) (places g c) c.requires.last in
    let packet : Place → List ℕ = λ place. packet_of c.args.self.now.link (bytes_at whole place) in
    ap (λ (ps : List Place). slice_get (map packet ps) (c.args.nth - 1)) (places g c)
    ∙ at_place packet c.self.inside.places.items c.args.nth c.index-place.result.now c.requires.first last c.index-place.ensures
    ∙ ap (λ (bytes : List ℕ). Some (packet_of c.args.self.now.link bytes)) (sym (bytes_left g c m whole is there))

pub returns-in_err-count-clause-reads : goal.returns-in_err-count-clause-reads
returns-in_err-count-clause-reads g c =
    let named : c.as_str.result.now ≡ c.args.self.now.name = c.as_str.ensures.value ∙ ap (λ (v : CaptureView). v.name) c.self.view_is in
    counted_out _ _ _ _ _ _ _ c.from_residual-in_err-count.ensures refl (λ absent m is. ap (file m) (sym named) ∙ absent m is) c.in_err-count.ensures.reads
