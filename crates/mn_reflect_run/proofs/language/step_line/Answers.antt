use Rattle.mn_script.specs.Words.{texts}
use Rattle.mn_script.specs.Steps.{route_line, import_line, export_line, site_line}
use Rattle.mn_reflect_telling.specs.Mentions.{numbers_of}
use Rattle.mn_reflect_run.proofs.Taken.{taken, route_taken, import_taken, export_taken, site_taken}
use Rattle.mn_reflect_run.proofs.language.step_line.Goals as goal

pub returns-then-is_word-3-clause-fits : goal.returns-then-is_word-3-clause-fits
returns-then-is_word-3-clause-fits c =
    taken c.args.topology.now (numbers_of c.args.reflectors.now) c.route_line.result (route_line c.args.topology.now (texts c.args.words.now))
    c.route_line.ensures.value (route_taken c.args.topology.now (numbers_of c.args.reflectors.now) (texts c.args.words.now)) c.route_line.ensures.fits

pub returns-then-is_word-4-clause-fits : goal.returns-then-is_word-4-clause-fits
returns-then-is_word-4-clause-fits c =
    taken c.args.topology.now (numbers_of c.args.reflectors.now) c.import_line.result (import_line c.args.topology.now (texts c.args.words.now))
    c.import_line.ensures.value (import_taken c.args.topology.now (numbers_of c.args.reflectors.now) (texts c.args.words.now)) c.import_line.ensures.fits

pub returns-then-is_word-5-clause-fits : goal.returns-then-is_word-5-clause-fits
returns-then-is_word-5-clause-fits c =
    taken c.args.topology.now (numbers_of c.args.reflectors.now) c.export_line.result (export_line c.args.topology.now (texts c.args.words.now))
    c.export_line.ensures.value (export_taken c.args.topology.now (numbers_of c.args.reflectors.now) (texts c.args.words.now)) c.export_line.ensures.fits

pub returns-then-is_word-6-clause-fits : goal.returns-then-is_word-6-clause-fits
returns-then-is_word-6-clause-fits c =
    taken c.args.topology.now (numbers_of c.args.reflectors.now) c.site_line.result (site_line c.args.topology.now (texts c.args.words.now))
    c.site_line.ensures.value (site_taken c.args.topology.now (numbers_of c.args.reflectors.now) (texts c.args.words.now)) c.site_line.ensures.fits
