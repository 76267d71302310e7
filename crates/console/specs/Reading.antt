-- What comes of one line, and of a whole text.
use Rattle.std.specs.Prelude.{◌≡◌, ℕ, ◌<◌, ◌≤◌, List, ◌++◌, length, drop, Some, None, Ok, Err, Option, Result}
use Rattle.records.specs.Readings.{Line, Reading}
use Rattle.records.specs.Views.{Goes}
use Rattle.refusals.specs.declared.refusal.Refusal.{Refusal}
use Rattle.refusals.specs.declared.refusal.Refusal.TheVariants.{LineTooShort}
use Rattle.rules.specs.States.{opened}
use Rattle.rules.specs.declared.call.Call.{Call}
use Rattle.runs.specs.Law.{Law}
use Rattle.runs.specs.Runs.{log}
use Rattle.console.specs.Boxes.{Box}
use Rattle.console.specs.Calls.{Reached, text_calls}
use Rattle.console.specs.Texts.{line_reply, line_box, reply_bytes, text_bytes, text_box}
use Rattle.console.specs.declared.reply.Reply.{Reply}
use Rattle.console.specs.declared.reply.Unread.{Unread}
use Rattle.console.specs.declared.reply.Unread.TheVariants.{TooLong, NoMemory}

-- the line l lies at the place of the cursor, the reply is its answer, and the bytes of the reply stand at the front of the line provided
pub record Replied (text : List ℕ) (at next : ℕ) (b c : Box) (before after : List ℕ) (r : Reply) : Type 0 where
  pub line : Line
  pub goes : Goes text at next line
  pub answer : r.answer ≡ line_reply b line
  pub box : c ≡ line_box b line
  pub written : r.written ≡ length (reply_bytes (line_reply b line))
  pub bytes : after ≡ reply_bytes (line_reply b line) ++ drop (length (reply_bytes (line_reply b line))) before

-- One step of a cursor from the place at to next, of a box from b to c and of the line provided:
-- refusal 1 where that line has fewer than 16 bytes, nothing at the end of the text, and else a reply. Only the last changes anything.
abbrev pub Stepped : List ℕ → ℕ → ℕ → Box → Box → List ℕ → List ℕ → Result (Option Reply) Refusal → Type 0
Stepped text at next b c before after (Err g) = (length before < 16) × (g ≡ LineTooShort) × (next ≡ at) × (c ≡ b) × (after ≡ before)
Stepped text at next b c before after (Ok None) = (length text ≤ at) × (next ≡ at) × (c ≡ b) × (after ≡ before)
Stepped text at next b c before after (Ok (Some r)) = Replied text at next b c before after r

-- The same of what does not depend on the box: it is refused only for a short line, it goes on, and no reply is longer than 12 bytes.
abbrev pub Onward : ℕ → ℕ → ℕ → ℕ → Result (Option Reply) Refusal → Type 0
Onward size n at next (Err g) = size < 16
Onward size n at next (Ok None) = n ≤ at
Onward size n at next (Ok (Some r)) = (at < next) × (next ≤ n) × (r.written ≤ 12)

-- A text that was read: its lines by the grammar, their answers one after another, the box after them; and of the calls since the
-- last accepted opening, whatever calls the box had seen before, the whole law of runs.
pub record WasRead (text : List ℕ) (b c : Box) (bytes : List ℕ) : Type 0 where
  pub lines : List Line
  pub reading : Reading text lines
  pub answers : bytes ≡ text_bytes b lines
  pub box : c ≡ text_box b lines
  pub law : (since : List Call) → Reached b since
      → Law c.site.house (text_calls b lines since) (log c.site.house (opened c.site.house) (text_calls b lines since)) c.site.state

-- a text that was not read: it is too long, or there is no memory for the answers
abbrev pub WasUnread : List ℕ → Unread → Type 0
WasUnread text TooLong = 32768 < length text
WasUnread text NoMemory = length text ≤ 32768
