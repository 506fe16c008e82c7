mod EarlierLaws
mod ListsLaws
mod PlaceLaws
mod SpanLaws
mod SpanSets
