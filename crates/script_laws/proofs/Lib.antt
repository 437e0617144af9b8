mod ValueTyping
mod GivenValues
