-- That no second outcome meets a contract, for each public function, of the contract as the checker reads it.
-- Assumes nothing.
use mathlib.Core.Path.{sym, ◌∙◌}
use Rattle.outcomes.specs.Outcomes.{OneAnswer, OneLeft}
use Rattle.table.proofs.Layout.line.Reads as line_reads_lem
use Rattle.table.proofs.Layout.body.Reads as body_Reads
use Rattle.table.proofs.Layout.size.Reads as size_reads
use Rattle.table.proofs.last_serial.Reads as last_serial_reads
use Rattle.table.proofs.set_last_serial.Reads as set_last_serial_reads
use Rattle.table.proofs.places_said.Reads as places_said_reads
use Rattle.table.proofs.latest_clock.Reads as latest_clock_reads
use Rattle.table.proofs.set_latest_clock.Reads as set_latest_clock_reads
use Rattle.table.proofs.name_at.Reads as name_at_reads
use Rattle.table.proofs.name_start.Reads as name_start_reads
use Rattle.table.proofs.serial_at.Reads as serial_at_reads

pub line_unique : OneAnswer line_reads_lem.Post
line_unique κs a r r' s s' p q = p ∙ sym q

pub body_unique : OneAnswer body_Reads.Post
body_unique κs a r r' s s' p q = p ∙ sym q

pub size_unique : OneAnswer size_reads.Post
size_unique κs a r r' s s' p q = p ∙ sym q

pub last_serial_unique : OneAnswer last_serial_reads.Post
last_serial_unique κs a r r' s s' p q = p ∙ sym q

pub set_last_serial_unique : OneLeft set_last_serial_reads.Post (λ k s. s.0.now)
set_last_serial_unique κs a r r' s s' p q = p ∙ sym q

pub places_said_unique : OneAnswer places_said_reads.Post
places_said_unique κs a r r' s s' p q = p ∙ sym q

pub latest_clock_unique : OneAnswer latest_clock_reads.Post
latest_clock_unique κs a r r' s s' p q = p ∙ sym q

pub set_latest_clock_unique : OneLeft set_latest_clock_reads.Post (λ k s. s.0.now)
set_latest_clock_unique κs a r r' s s' p q = p ∙ sym q

pub serial_at_unique : OneAnswer serial_at_reads.Post
serial_at_unique κs a r r' s s' p q = p ∙ sym q

pub name_at_unique : OneAnswer name_at_reads.Post
name_at_unique κs a r r' s s' p q = p ∙ sym q

pub name_start_unique : OneAnswer name_start_reads.Post
name_start_unique κs a r r' s s' p q = p ∙ sym q
