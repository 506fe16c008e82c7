-- Which call a call is.
use Rattle.policy_words.specs.declared.word.CallWord.{CallWord}
use Rattle.policy_words.specs.declared.word.CallWord.TheVariants.{Any, Drop, Internal, Link, Path, Of}
use Rattle.policy_base.specs.declared.call.Call.{Call}
use Rattle.policy_base.specs.declared.call.Call.TheVariants as call

-- which call it is
abbrev pub word_of : Call → CallWord
word_of call.Any = Any
word_of call.Drop = Drop
word_of call.Internal = Internal
word_of (call.Link a b) = Link
word_of (call.Path sets) = Path
word_of (call.Of c s) = Of c
