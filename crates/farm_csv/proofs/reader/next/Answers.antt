-- Answers to the open goals of `next`.
use Rattle.csv.specs.Reading.{error_kind}
use Rattle.csv.specs.Records.{fields_of}
use Rattle.farm_csv.proofs.Lefts.{fault_is, none_taken, taken}
use Rattle.farm_csv.proofs.reader.next.Goals as goal

pub returns-in-Ok-clause-at_record : goal.returns-in-Ok-clause-at_record
returns-in-Ok-clause-at_record c = λ found.
    let read = c.in-Ok.ensures in
    (taken c.args.reader.now c.read_byte_record.new.self (fields_of c.read_byte_record.new.row) c.requires.at_record read.flexible (read.ready c.requires.at_record.whole_fields) (rw found at (read.reads c.requires.at_record.whole_fields c.requires.at_record.ready))).at_record

pub returns-in-Ok-clause-record : goal.returns-in-Ok-clause-record
returns-in-Ok-clause-record c = λ found.
    let read = c.in-Ok.ensures in
    (taken c.args.reader.now c.read_byte_record.new.self (fields_of c.read_byte_record.new.row) c.requires.at_record read.flexible (read.ready c.requires.at_record.whole_fields) (rw found at (read.reads c.requires.at_record.whole_fields c.requires.at_record.ready))).record_is

pub returns-in-Ok-clause-even : goal.returns-in-Ok-clause-even
returns-in-Ok-clause-even c = λ found.
    let read = c.in-Ok.ensures in
    (taken c.args.reader.now c.read_byte_record.new.self (fields_of c.read_byte_record.new.row) c.requires.at_record read.flexible (read.ready c.requires.at_record.whole_fields) (rw found at (read.reads c.requires.at_record.whole_fields c.requires.at_record.ready))).even

pub returns-in-Ok-clause-end : goal.returns-in-Ok-clause-end
returns-in-Ok-clause-end c = λ found.
    (none_taken c.args.reader.now c.read_byte_record.new.self (fields_of c.read_byte_record.new.row) c.requires.at_record (rw found at (c.in-Ok.ensures.reads c.requires.at_record.whole_fields c.requires.at_record.ready))).0

pub returns-in-Ok-clause-all_even : goal.returns-in-Ok-clause-all_even
returns-in-Ok-clause-all_even c = λ found.
    (none_taken c.args.reader.now c.read_byte_record.new.self (fields_of c.read_byte_record.new.row) c.requires.at_record (rw found at (c.in-Ok.ensures.reads c.requires.at_record.whole_fields c.requires.at_record.ready))).1

pub returns-in-Err-clause-fault : goal.returns-in-Err-clause-fault
returns-in-Err-clause-fault c =
    rw c.fault_of.ensures (fault_is c.args.reader.now c.read_byte_record.new.self (error_kind c.in-Err.error) c.requires.at_record (c.in-Err.ensures.why c.requires.at_record.ready))
