-- A good packet has the fields that are written, and only its TTL and checksum change.
use Rattle.std.proofs.Common.{arith}
use Rattle.std.proofs.lemmas.List.{length-set}
use Rattle.mn_ipv4.specs.Header.{with_ttl}
use Rattle.mn_ipv4.proofs.Sum.{IsBytes}
use Rattle.mn_ipv4.proofs.Laws.{IsGood-from_good, good-from_IsGood, IsGood-with_ttl, ttl_of-with_ttl, with_ttl-is_aged, header_words-set_ttl}
use Rattle.mn_ipv4.proofs.lifetime.set_ttl.Goals as goal

pub bounds-bytes-8 : goal.bounds-bytes-8
bounds-bytes-8 c = let g = IsGood-from_good c.args.bytes.now c.requires in omega arith

pub renew_checksum-requires-clause-least : goal.renew_checksum-requires-clause-least
renew_checksum-requires-clause-least c =
    let g = IsGood-from_good c.args.bytes.now c.requires in
    let same = header_words-set_ttl c.args.bytes.now c.args.ttl in
    omega arith

pub renew_checksum-requires-clause-there : goal.renew_checksum-requires-clause-there
renew_checksum-requires-clause-there c =
    let g = IsGood-from_good c.args.bytes.now c.requires in
    let same = header_words-set_ttl c.args.bytes.now c.args.ttl in
    let long = length-set c.args.bytes.now 8 c.args.ttl in
    omega arith

pub returns-clause-written : goal.returns-clause-written
unfolding with_ttl
returns-clause-written c = c.renew_checksum.ensures

pub returns-clause-ttl_is : goal.returns-clause-ttl_is
returns-clause-ttl_is c =
    let g = IsGood-from_good c.args.bytes.now c.requires in
    let written = returns-clause-written c in
    rw written (ttl_of-with_ttl c.args.bytes.now c.args.ttl (omega arith))

pub returns-clause-still_good : goal.returns-clause-still_good
returns-clause-still_good c =
    let b = c.args.bytes.now in
    let t = c.args.ttl in
    let written = returns-clause-written c in
    let bytes : IsBytes c.renew_checksum.new.bytes = λ i. (c.type_inv.bytes i).fits in
    let new_bytes : IsBytes (with_ttl b t) = rw written at bytes in
    rw written (good-from_IsGood (with_ttl b t) (IsGood-with_ttl b t new_bytes (IsGood-from_good b c.requires)))

pub returns-clause-as_aged : goal.returns-clause-as_aged
returns-clause-as_aged c = λ h.
    let g = IsGood-from_good c.args.bytes.now c.requires in
    let written = returns-clause-written c in
    rw written (with_ttl-is_aged c.args.bytes.now c.args.ttl g h)
