-- A command of the code as the history hears it.
use Rattle.cdb.specs.declared.Command as code
use Rattle.history.specs.Shelf as history

abbrev pub heard : code.Command → history.Command
heard c = record { host = c.host; cdb = c.cdb.now; payload = c.payload.now; room = c.room }
