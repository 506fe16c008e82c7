-- The words of events.
use Rattle.std.specs.Prelude.{ℕ, List, Option, Some, None, codes, if◌then◌else◌}
use Rattle.std.specs.Str.{bytes_eq}
use Rattle.event_base.specs.declared.event.Event.{Event}
use Rattle.event_base.specs.declared.event.Event.TheVariants as event
use Rattle.event_reader.specs.declared.words.LinkWord.{LinkWord}
use Rattle.event_reader.specs.declared.words.LinkWord.TheVariants.{Deliver, LinkDown, LinkUp, PeerSpeak, PeerSilent}
use Rattle.event_reader.specs.declared.words.RouterWord.{RouterWord}
use Rattle.event_reader.specs.declared.words.RouterWord.TheVariants.{RouterDown, RouterUp}

-- what happens between two locations
abbrev pub link_word : List ℕ → Option LinkWord
link_word word =
    if bytes_eq word (codes "deliver") then Some Deliver
    else if bytes_eq word (codes "link_down") then Some LinkDown
    else if bytes_eq word (codes "link_up") then Some LinkUp
    else if bytes_eq word (codes "peer_speak") then Some PeerSpeak
    else if bytes_eq word (codes "peer_silent") then Some PeerSilent
    else None

-- what happens to a router
abbrev pub router_word : List ℕ → Option RouterWord
router_word word =
    if bytes_eq word (codes "router_down") then Some RouterDown
    else if bytes_eq word (codes "router_up") then Some RouterUp
    else None

-- it happens between these two, or to this one
abbrev pub link_event : LinkWord → ℕ → ℕ → Event
link_event Deliver a b = event.Deliver a b
link_event LinkDown a b = event.LinkDown a b
link_event LinkUp a b = event.LinkUp a b
link_event PeerSpeak r p = event.PeerSpeak r p
link_event PeerSilent r p = event.PeerSilent r p

abbrev pub router_event : RouterWord → ℕ → Event
router_event RouterDown r = event.RouterDown r
router_event RouterUp r = event.RouterUp r
