use Rattle.std.proofs.Common.{◌≡◌, ◌++◌, ◌∙◌, ap, append_assoc, List, ℕ, OnOk, Result, Ok, Err, is_ok, if◌then◌else◌}
use Rattle.mn_perform.proofs.Adding.{record_put}
use Rattle.mn_perform.proofs.capture_record.CaptureRecordLine.put.Goals as goal

put : {T E : Type 0} (r : Result T E) (old head front packet one two three : List ℕ) → one ≡ old ++ head → two ≡ one ++ front →
    three ≡ (if is_ok r then two ++ packet else two) → OnOk r (three ≡ old ++ (head ++ (front ++ packet)))
put (Err e) old head front packet one two three a b c = tt
put (Ok x) old head front packet one two three a b c =
    c ∙ ap (λ l. l ++ packet) (b ∙ ap (λ l. l ++ front) a) ∙ append_assoc (old ++ head) front packet ∙ append_assoc old head (front ++ packet)

pub returns : goal.returns
returns c =
    record_put c.extend_from_slice-3.result c.args.self.now.tick c.args.out.now.items c.record_header.result c.args.self.now.front.now
    c.args.self.now.packet.now c.extend_from_slice-3.new.self.items c.record_header.ensures
    (put c.extend_from_slice-3.result c.args.out.now.items c.record_header.result c.args.self.now.front.now c.args.self.now.packet.now
    c.extend_from_slice.new.self.items c.extend_from_slice-2.new.self.items c.extend_from_slice-3.new.self.items
    c.in_ok-extend_from_slice.ensures.items c.in_ok-extend_from_slice-2.ensures.items c.extend_from_slice-3.ensures.items)
