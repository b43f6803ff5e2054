use Rattle.queries.specs.Control.{name_message}
use Rattle.queries.proofs.control.send_control.Goals as goal

pub returns-in-Name : goal.returns-in-Name
returns-in-Name c = rw c.in-Name.is (rw (name_message c.args.number c.args.value c.args.name.now) at c.send_named.ensures)
