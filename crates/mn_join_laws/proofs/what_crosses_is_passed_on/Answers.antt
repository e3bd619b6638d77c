use Rattle.mn_join_laws.proofs.Passing.{all_passed, all_lowered, lives_on}
use Rattle.mn_join_laws.proofs.what_crosses_is_passed_on.Goals as goal

pub returns-clause-passed : goal.returns-clause-passed
returns-clause-passed c = all_passed

pub returns-clause-lowered : goal.returns-clause-lowered
returns-clause-lowered c = all_lowered

pub returns-clause-lives : goal.returns-clause-lives
returns-clause-lives c = lives_on
