-- The numbers of the refusals, as the table of the rules has them.
use Rattle.std.specs.Prelude.{ℕ, Some, None, Option}
use Rattle.faults.specs.declared.OrderFault.{OrderFault}
use Rattle.faults.specs.declared.OrderFault.TheVariants.{NotLive, LiveAlready, NotMake, MakeAlready, Undeclared, TooDeep, TableFull, UsedUp, Unfit, BadFlag, AwaitsFull}
use Rattle.faults.specs.declared.EntryFault.{EntryFault}
use Rattle.faults.specs.declared.EntryFault.TheVariants.{Order, Unknown, OutOfTurn, BadPath, NoRoom, NotHeld, NoMemory}
use Rattle.faults.specs.declared.ReaderFault.{ReaderFault}
use Rattle.faults.specs.declared.ReaderFault.TheVariants.{Entry, BadVersion, Cut, UnknownLetter, BadLength, TooLong}

abbrev pub order_number : OrderFault → ℕ
order_number NotLive = 1
order_number LiveAlready = 2
order_number NotMake = 3
order_number MakeAlready = 4
order_number Undeclared = 5
order_number TooDeep = 6
order_number TableFull = 7
order_number UsedUp = 8
order_number Unfit = 9
order_number BadFlag = 10
order_number AwaitsFull = 11

-- want of memory is no refusal of the rules: it has no number
abbrev pub entry_number : EntryFault → Option ℕ
entry_number (Order f) = Some (order_number f)
entry_number Unknown = Some 12
entry_number OutOfTurn = Some 13
entry_number BadPath = Some 14
entry_number NoRoom = Some 15
entry_number NotHeld = Some 16
entry_number NoMemory = None

abbrev pub reader_number : ReaderFault → Option ℕ
reader_number (Entry f) = entry_number f
reader_number BadVersion = Some 17
reader_number Cut = Some 18
reader_number UnknownLetter = Some 19
reader_number BadLength = Some 20
reader_number TooLong = Some 21
