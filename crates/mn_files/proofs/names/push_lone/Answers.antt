use Rattle.mn_output_laws.specs.Files.{Journal, Labels, Deliveries, file_name}
use Rattle.mn_files.proofs.Texts.{pushed_thrice}
use Rattle.mn_files.proofs.names.push_lone.Goals as goal

pub returns : goal.returns
returns c = λ t.
    pushed_thrice c.args.names.now.items c.push.new.self.items c.push-2.new.self.items c.push-3.new.self.items c.in_ok-lone_name.field-0
    c.in_ok-lone_name-2.field-0 c.in_ok-lone_name-3.field-0
    (file_name c.args.folder.now t Journal) (file_name c.args.folder.now t Labels) (file_name c.args.folder.now t Deliveries)
    c.in_ok-push.ensures.items c.in_ok-push-2.ensures.items c.in_ok-push-3.ensures.items c.in_ok-lone_name.ensures c.in_ok-lone_name-2.ensures
    c.in_ok-lone_name-3.ensures
