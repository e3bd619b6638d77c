use Rattle.std.proofs.Common.{◌≡◌, ◌+◌, ◌-◌, ◌++◌, length, take, replicate, cond, true, is_ok, vec_len, refl, sym, ap, ◌∙◌, subst, arith}
use Rattle.std.proofs.Common.{length-append, get_or}
use Rattle.mn_paths.specs.Whole.{IsPath}
use Rattle.mn_paths.specs.declared.table.Path.{Path}
use Rattle.mn_paths.proofs.Kept.{visited, room_of}
use Rattle.mn_paths.proofs.Moved.{grown_far, long, moved, others, each_now, apart_now, owed_now, owed_much}
use Rattle.mn_paths.proofs.table.Table.move_far.Goals as goal

pub returns : goal.returns
returns c =
    let p = c.index_mut-path.result.now in
    let far = c.args.self.now.far.items in
    let paths = c.args.self.now.paths.items in
    let n = c.args.packet in
    let read = c.index_mut-path.ensures.value in
    let low = c.requires.packet in
    let each = c.requires.whole.each in
    let apart = c.requires.whole.apart in
    let mine = subst (λ x. IsPath (length far) x) (sym read) (each n p low) in
    let full = subst (λ (x : Path). x.len ≡ 6) (sym read) (c.requires.full p) in
    let more = room_of paths far n p low read c.requires.room in
    let far_len : vec_len c.args.self.now.far ≡ length far = omega (arith, c.args.self.now.far.ok.0) in
    let start_is : c.len-start.result ≡ length far = omega (arith, c.len-start.ensures, far_len) in
    let most_is : c.from-most.result ≡ p.most = c.from-most.ensures in
    let much = owed_much paths far (far ++ (p.near ++ replicate (p.most - 6) c.args.node)) n p c.args.node low read each apart full more refl
    c.args.self.now.owed c.requires.whole.owed in
    let ok : is_ok c.extend_from_slice.result ≡ true =
    c.extend_from_slice.ensures.succeeds (omega (arith, c.requires.whole.room, much, mine.near, more, full)) in
    let one : c.extend_from_slice.new.self.items ≡ far ++ p.near =
    c.extend_from_slice.ensures.items ∙ ap (λ b. cond b (far ++ p.near) far) ok in
    let one_len : vec_len c.extend_from_slice.new.self ≡ length far + 6 =
    omega (arith, c.extend_from_slice.new.self.ok.0, ap length one, length-append far p.near, mine.near) in
    let fits : is_ok c.resize.result ≡ true =
    c.resize.ensures.succeeds (omega (arith, c.requires.whole.room, much, start_is, most_is, far_len, c.extend_from_slice.ensures.capacity)) in
    let filled : c.resize.new.self.items ≡ take (c.len-start.result + c.from-most.result) c.extend_from_slice.new.self.items
    ++ replicate ((c.len-start.result + c.from-most.result) - vec_len c.extend_from_slice.new.self) c.args.node =
    c.resize.ensures.items
    ∙ ap (λ b. cond b (take (c.len-start.result + c.from-most.result) c.extend_from_slice.new.self.items
    ++ replicate ((c.len-start.result + c.from-most.result) - vec_len c.extend_from_slice.new.self) c.args.node) c.extend_from_slice.new.self.items) fits in
    let is =
    grown_far far p.near c.extend_from_slice.new.self.items c.resize.new.self.items p.most (c.len-start.result + c.from-most.result)
    (vec_len c.extend_from_slice.new.self) c.args.node one one_len mine.near (omega (arith, start_is, most_is)) (omega (arith, more, full)) filled in
    let longer = long paths far c.resize.new.self.items n p c.args.node low read each apart full more is in
    let new_len : vec_len c.resize.new.self ≡ length far + p.most = omega (arith, c.resize.new.self.ok.0, longer) in
    record {
      whole = rw (start_is, most_is) (record {
        each = each_now paths far c.resize.new.self.items n p c.args.node low read each apart full more is;
        apart = apart_now paths far c.resize.new.self.items n p c.args.node low read each apart full more is;
        owed = owed_now paths far c.resize.new.self.items n p c.args.node low read each apart full more is c.args.self.now.owed c.requires.whole.owed;
        room =
            omega (arith, new_len, much, far_len, c.requires.whole.room, c.extend_from_slice.ensures.capacity, c.resize.ensures.capacity);
        small = omega (arith, longer, much, c.requires.whole.small);
      });
      visits =
          rw start_is
          (visited paths far c.resize.new.self.items n p _ c.args.node low read
          (λ k d below ne. others paths far c.resize.new.self.items n p c.args.node low read each apart full more is (get_or paths k d) (each k d below))
          (moved paths far c.resize.new.self.items n p c.args.node low read each apart full more is));
    }
