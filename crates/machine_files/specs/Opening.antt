-- Why a program has not opened its archive's files: its exit status, and the line that is printed of it.
use Rattle.std.specs.Prelude.{ℕ, List, ◌++◌, codes, Result, Ok, Err}
use Rattle.std.specs.declared.fs.locks.TryLockError.{TryLockError}
use Rattle.std.specs.declared.fs.locks.TryLockError.TheVariants as tries
use Rattle.machine_files.specs.declared.open_error.OpenError.{OpenError}
use Rattle.machine_files.specs.declared.open_error.OpenError.TheVariants.{Held, NoLock, Failed}
use Rattle.machine_files.specs.declared.open_error.OpenLine.{OpenLine}

-- the exit status
abbrev pub open_code : OpenError → ℕ
open_code Held = 11
open_code NoLock = 4
open_code Failed = 4

-- what the line says behind the program's name
abbrev pub cause_text : OpenError → List ℕ
cause_text Held = codes ": another program is at work in this folder"
cause_text NoLock = codes ": this folder's file system has no locks"
cause_text Failed = codes ": disk fault"

-- the line, without its end
abbrev pub open_text : OpenLine → List ℕ
open_text line = line.program.now ++ cause_text line.error

-- what the system's answer to a call for a lock means
abbrev pub lock_of : Result (Unit {0}) TryLockError → Result (Unit {0}) OpenError
lock_of (Ok done) = Ok done
lock_of (Err tries.WouldBlock) = Err Held
lock_of (Err (tries.Error cause)) = Err NoLock
