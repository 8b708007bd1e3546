use Rattle.std.proofs.Common.{rules}
use Rattle.gh_driver.specs.Top.{Shelves}
use Rattle.gh_driver.proofs.Tops.{read_does}
use Rattle.gh_driver.proofs.top.do_file.Goals as goal

pub returns-in-Ok-clause-told : goal.returns-in-Ok-clause-told
returns-in-Ok-clause-told g c =
    let shelf : Shelves = record {
      tells = g.S.Shelf.tells c.args.shelf.now;
      held = g.S.Shelf.held c.args.shelf.now;
      faults_old = g.S.Shelf.faults c.args.shelf.now;
      faults_new = g.S.Shelf.faults c.read_file.new.self;
      asked_old = g.S.Shelf.asked c.args.shelf.now;
      asked_new = g.S.Shelf.asked c.read_file.new.self;
    } in
    read_does c.do_bytes.new.names c.args.mode c.as_slice.result.now c.args.file.now c.in-Ok.bytes shelf _ _ c.as_slice.ensures c.in-Ok.ensures.bytes c.do_bytes.ensures.told
