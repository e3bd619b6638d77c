use Rattle.std.proofs.Common.{◌≡◌, [], ◌++◌, take, sym, ap, ◌∙◌, append-nil}
use Rattle.std.proofs.lemmas.Result.{on_ok_weaker, on_err_weaker}
use Rattle.mn_lines.proofs.Waiting.{all_put, some_put}
use Rattle.mn_lines.proofs.page.Page.end.Goals as goal

pub returns-clause-put : goal.returns-clause-put
returns-clause-put g c =
    let is : take c.self.inside.held c.deref.result.now ≡ c.args.self.now ++ [] =
    ap (take c.self.inside.held) c.deref.ensures.value ∙ c.self.view_is ∙ sym (append-nil c.args.self.now) in
    on_ok_weaker c.put-put.result (λ put. all_put [] c.args.self.now (take c.self.inside.held c.deref.result.now) _ _ is put) c.put-put.ensures.put

pub returns-clause-part : goal.returns-clause-part
returns-clause-part g c =
    let is : take c.self.inside.held c.deref.result.now ≡ c.args.self.now ++ [] =
    ap (take c.self.inside.held) c.deref.ensures.value ∙ c.self.view_is ∙ sym (append-nil c.args.self.now) in
    on_err_weaker c.put-put.result (λ put. some_put [] c.args.self.now (take c.self.inside.held c.deref.result.now) _ _ is put) c.put-put.ensures.refused
